use Rattle.std.proofs.Common.{◌≡◌, ◌∷◌, true, sym, subst}
use Rattle.job_calls.specs.declared.call.ClusterCall.{ClusterCall}
use Rattle.job_calls.specs.declared.call.ClusterCall.TheVariants as asked
use Rattle.cluster.specs.Pasts.{event, is_accepted}
use Rattle.cluster.specs.Clusters.{LeadsTo}
use Rattle.stretches.specs.Tasks.{AreWatched}
use Rattle.stretches.specs.Breaks.{AreBreaks}
use Rattle.stretches.proofs.Tasks.{accepted_if, kept_same, none_called, none_refused}
use Rattle.stretches.proofs.job_handles.JobHandles.observe.Goals as goal

pub returns-in-Refused-clause-breaks : goal.returns-in-Refused-clause-breaks
returns-in-Refused-clause-breaks c job past leads few kept =
    kept_same AreBreaks job past (event c.args.call.now c.args.reply.now ∷ past) c.args.self.now.tasks.items
    (none_refused past c.args.call.now c.args.reply.now c.in-Refused.field-0 c.in-Refused.is) kept

pub returns-in_default-call-clause-breaks : goal.returns-in_default-call-clause-breaks
returns-in_default-call-clause-breaks c job past leads few kept =
    kept_same AreBreaks job past (event c.args.call.now c.args.reply.now ∷ past) c.args.self.now.tasks.items
    (none_called past c.args.call.now c.args.reply.now c.in_default-call.not-Task) kept

pub returns-in-Task-clause-breaks : goal.returns-in-Task-clause-breaks
returns-in-Task-clause-breaks c job past leads few kept =
    let told = c.args.reply.now in
    let taken : is_accepted told ≡ true = accepted_if told c.in_default.not-Refused in
    let called = asked.Task c.in-Task.task c.in-Task.call in
    subst (λ (asked : ClusterCall). AreWatched job (event asked told ∷ past) c.observe_task.new.self) (sym c.in-Task.is)
    (c.observe_task.ensures.breaks job past told taken
    (subst (λ (asked : ClusterCall). LeadsTo job (event asked told ∷ past) c.args.cluster.now) c.in-Task.is leads) few kept)
