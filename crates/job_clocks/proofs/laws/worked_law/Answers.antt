use Rattle.std.proofs.Common.{Bool, true, false, [], ◌∷◌, Some, None, inl, inr, refl, nat_eq, lit≤}
use Rattle.std.specs.Prelude.{if◌then◌else◌}
use Rattle.clocks.specs.Rounding.{div_up}
use Rattle.clocks.specs.Drifts.{most_gain}
use Rattle.clocks.specs.Worked.{a_third}
use Rattle.clocks.specs.Pasts.{Sampled, TaskRead, Other, Past, table_seen, KeepsDrift, SamplesAreAnswers}
use Rattle.job_clocks.specs.Worked.{worked}
use Rattle.job_clocks.proofs.laws.worked_law.Goals as goal

-- the past as life 1 sees it, or another one
abbrev seen : Bool → Past
seen own =
    (if own then TaskRead 12 else Other) ∷ (if own then Sampled 12 (record { sent = 10; reading = 100 }) else Other)
    ∷ table_seen 100 (if own then Some 11 else None) ∷ []

paced : (own : Bool) → KeepsDrift a_third (seen own)
paced true = (
  (record { local = lit≤ tt; readings = tt }, (record { local = lit≤ tt; readings = tt }, tt)),
  ((record { local = lit≤ tt; readings = tt }, tt), (tt, tt)),
)
paced false = ((record { local = tt; readings = tt }, (record { local = tt; readings = tt }, tt)), ((record { local = tt; readings = tt }, tt), (tt, tt)))

honest : (own : Bool) → SamplesAreAnswers (seen own)
honest true = (inl (refl, lit≤ tt), tt)
honest false = tt

pub returns : goal.returns
unfolding div_up most_gain
returns c = record {
  oldest = λ life. 20;
  clocks = worked;
  keeps = record { paced = λ life. paced (nat_eq 1 life); honest = λ life. honest (nat_eq 1 life) };
  read = inr (refl, inr (refl, refl));
}
