use Rattle.std.proofs.Common.{◌∙◌, ap, refl}
use Rattle.std.specs.Prelude.{Some, None}
use Rattle.log_line.specs.declared.line.LoggedCall.TheVariants.{Whole}
use Rattle.log_causes.proofs.Breaking.{check_cause}
use Rattle.log_causes.proofs.taking.break_cause.Goals as goal

pub returns-in-Some : goal.returns-in-Some
returns-in-Some c = λ job begins.
    check_cause job c.args.before.now c.args.call.now c.in-Check.task c.in-Check.handle c.in-Check.at (Some c.in-Some.place) _
    (c.in-Whole.is ∙ ap Whole c.in-Check.is) (rw c.in-Some.is at (c.in_ok-place.ensures job begins)) refl

pub returns-in-None : goal.returns-in-None
returns-in-None c = λ job begins.
    check_cause job c.args.before.now c.args.call.now c.in-Check.task c.in-Check.handle c.in-Check.at None _
    (c.in-Whole.is ∙ ap Whole c.in-Check.is) (rw c.in-None.is at (c.in_ok-place.ensures job begins)) refl
