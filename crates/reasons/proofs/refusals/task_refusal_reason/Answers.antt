use Rattle.std.proofs.Common.{sym, subst}
use Rattle.grants.specs.declared.slicelet_error.SliceletError.{SliceletError}
use Rattle.reasons.specs.Reasons.{by_task, IsReasonOrNone}
use Rattle.reasons.specs.internals.Answers.{IsTaskRefusal}
use Rattle.reasons.proofs.Refusing.{task_read}
use Rattle.reasons.proofs.refusals.task_refusal_reason.Goals as goal

pub returns-in-ClockBack : goal.returns-in-ClockBack
returns-in-ClockBack c = λ t made places asks answer.
    let s = c.args.slicelet.now in
    let o = c.task_reading_reason.result in
    subst (λ (e : SliceletError). IsReasonOrNone t s places made (by_task e) o) (sym c.in-ClockBack.is)
    (task_read t s places made c.args.question.now o asks (subst (λ (e : SliceletError). IsTaskRefusal s made e) c.in-ClockBack.is answer) c.task_reading_reason.ensures)
