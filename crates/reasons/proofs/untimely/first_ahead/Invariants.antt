use Rattle.std.proofs.Common.{◌∷◌}
use Rattle.job_calls.specs.declared.timing.Reading.TheVariants.{TableClock}
use Rattle.reasons.specs.Untimely.{AreNear}
use Rattle.reasons.proofs.untimely.first_ahead.Given as goal

abbrev pub invariant-loop-call : goal.invariant-loop-call
invariant-loop-call l = AreNear l.skew l.late (TableClock l.earlier ∷ l.readings) l.call
