-- A worked example.
use Rattle.std.specs.Prelude.{[], ◌∷◌, Some, None, nat_eq, if◌then◌else◌}
use Rattle.job_clocks.specs.JobPasts.{TableReads, LifeSamples, LifeReads, JobPast}

-- newest first: life 1 sends a request at 10, the table reads 100 when its local clock shows 11, and
-- it takes the answer and reads its clock at 12
abbrev pub worked : JobPast
worked =
    LifeReads 1 12 ∷ LifeSamples 1 12 (record { sent = 10; reading = 100 })
    ∷ TableReads 100 (λ life. if nat_eq 1 life then Some 11 else None) ∷ []
