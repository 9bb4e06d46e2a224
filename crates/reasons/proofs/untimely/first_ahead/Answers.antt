use Rattle.std.proofs.Common.{◌∷◌, ◌∙◌, sym}
use Rattle.job_calls.specs.declared.timing.Reading.TheVariants.{TableClock}
use Rattle.reasons.proofs.Ahead.{first_found, none_found}
use Rattle.reasons.proofs.untimely.first_ahead.Goals as goal

pub returns-in-Some : goal.returns-in-Some
returns-in-Some c = rw c.number_of-call.ensures
    (first_found c.args.skew c.args.late (TableClock c.args.earlier ∷ c.args.readings.now) c.loop-call.call c.in-Some.at c.args.before
    (sym c.in-Some.is ∙ c.ahead_at.ensures) c.loop-call-test.true c.loop-call.invariant)

pub loop-call-preserved : goal.loop-call-preserved
loop-call-preserved c = none_found c.args.skew c.args.late (TableClock c.args.earlier ∷ c.args.readings.now) c.loop-call.call
    (sym c.in_default.is ∙ c.ahead_at.ensures) c.loop-call.invariant
