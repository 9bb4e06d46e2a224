use Rattle.std.proofs.Common.{◌≡◌, ◌∷◌, true, sym, subst}
use Rattle.std.specs.Prelude.{OnOk}
use Rattle.job_calls.specs.declared.call.ClusterCall.{ClusterCall}
use Rattle.job_calls.specs.declared.call.ClusterCall.TheVariants as asked
use Rattle.cluster.specs.Pasts.{event, is_accepted}
use Rattle.cluster.specs.Clusters.{LeadsTo}
use Rattle.stretches.specs.Tasks.{AreKept, AreKeptOn}
use Rattle.stretches.proofs.Tasks.{accepted_if, kept_same, none_called, none_refused}
use Rattle.stretches.proofs.job_stretches.JobStretches.observe.Goals as goal

pub returns-in-Refused : goal.returns-in-Refused
returns-in-Refused c job past key leads few kept =
    kept_same (AreKeptOn key) job past (event c.args.call.now c.args.reply.now ∷ past) c.args.self.now.tasks.items
    (none_refused past c.args.call.now c.args.reply.now c.in-Refused.field-0 c.in-Refused.is) kept

pub returns-in_default-call : goal.returns-in_default-call
returns-in_default-call c job past key leads few kept =
    kept_same (AreKeptOn key) job past (event c.args.call.now c.args.reply.now ∷ past) c.args.self.now.tasks.items
    (none_called past c.args.call.now c.args.reply.now c.in_default-call.not-Task) kept

pub returns-in-Task : goal.returns-in-Task
returns-in-Task c job past key leads few kept =
    let told = c.args.reply.now in
    let taken : is_accepted told ≡ true = accepted_if told c.in_default.not-Refused in
    let called = asked.Task c.in-Task.task c.in-Task.call in
    subst (λ (asked : ClusterCall). OnOk c.observe_task.result (AreKept job (event asked told ∷ past) key c.observe_task.new.self)) (sym c.in-Task.is)
    (c.observe_task.ensures job past key told taken
    (subst (λ (asked : ClusterCall). LeadsTo job (event asked told ∷ past) c.args.cluster.now) c.in-Task.is leads) few kept)
