use Rattle.std.proofs.Common.{◌+◌, ◌∷◌}
use Rattle.job_calls.specs.declared.timing.Reading.TheVariants.{TableClock}
use Rattle.reasons.proofs.Ahead.{IsWatched}
use Rattle.reasons.proofs.untimely.first_untimely.Given as goal

-- the calls before the one with this number
abbrev pub invariant-loop-place : goal.invariant-loop-place
invariant-loop-place l = IsWatched l.skew (TableClock l.earlier ∷ l.readings) (l.place + 1) l.greatest
