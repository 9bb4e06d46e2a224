use Rattle.std.proofs.Common.{true, refl, ◌∙◌, ap}
use Rattle.lease_table.specs.Tables.{phase_of}
use Rattle.job_calls.specs.declared.call.ClusterCall.TheVariants as call
use Rattle.job_calls.specs.declared.reply.ClusterReply.TheVariants as reply
use Rattle.cluster.specs.continued.Clusters.{LeadsTo}
use Rattle.cluster.proofs.Playing.{only_told}
use Rattle.cluster.proofs.cluster.Cluster.phase_reply.Goals as goal

pub returns : goal.returns
unfolding LeadsTo
returns c = λ job past k.
    only_told job past call.Phase (reply.Phase c.phase.result) c.args.self.now k (true, tt, ap (λ p. reply.Phase p) (c.phase.ensures ∙ ap phase_of k.table)) refl (λ n. refl) (λ n. refl) refl refl
