-- A worked example.
use Rattle.std.specs.Prelude.{[], ◌∷◌, Some}
use Rattle.std.proofs.Common.{lit<}
use Rattle.clocks.specs.declared.drift.Drift.{Drift}
use Rattle.clocks.specs.Pasts.{EarlyRead, TableRead, Sampled, TaskRead, Other, Past}
use Rattle.clocks.specs.Restarts.{Opens, Reads, TablePast}

-- while the local clock gains 3 ticks, the table's gains at most 4, and one at once
abbrev pub a_third : Drift
a_third = record { extra = 1; per = 3; grain = 1; positive = lit< tt }

-- newest first: a request that is sent at 10 is answered at 100, and the clock is read at 12 and at
-- 16
abbrev pub worked : Past
worked =
    TaskRead 16 ∷ TableRead (record { table = 108; local = 16 }) ∷ Other ∷ TaskRead 12 ∷ Sampled 12 (record { sent = 10; reading = 100 })
    ∷ TableRead (record { table = 100; local = 11 }) ∷ EarlyRead 99 ∷ []

-- newest first: a process reads 50, and what is kept then is 55; the next one opens the clock 10
-- below that, and reads 61
abbrev pub two_processes : TablePast
two_processes = Reads 23 (Some 213) ∷ Opens 55 7 (Some 197) ∷ Reads 50 (Some 150) ∷ Opens 0 0 (Some 100) ∷ []
