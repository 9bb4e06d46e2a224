use Rattle.std.proofs.Common.{sym, subst}
use Rattle.job_calls.specs.declared.reply.ClusterReply.{ClusterReply}
use Rattle.reasons.specs.Reasons.{IsReasonOrNone}
use Rattle.reasons.specs.internals.Answers.{IsAnswer}
use Rattle.reasons.proofs.Answering.{by_task_error, refusal_by}
use Rattle.reasons.proofs.reasons.task_reason.Goals as goal

pub returns-in-Some : goal.returns-in-Some
returns-in-Some c = λ made asks answer none.
    let t = c.args.table.now in
    let s = c.args.slicelet.now in
    let places = c.args.places.now in
    let e = c.in-Some.error in
    let told = by_task_error c.args.reply.now e c.in-Some.ensures in
    let refusal = refusal_by s made e (subst (λ (r : ClusterReply). IsAnswer s made r) told answer) in
    subst (λ (r : ClusterReply). IsReasonOrNone t s places made r c.task_refusal_reason.result) (sym told) (c.task_refusal_reason.ensures t made places asks refusal)
