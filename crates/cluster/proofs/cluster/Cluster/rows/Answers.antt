use Rattle.std.proofs.Common.{true, refl, ◌∙◌, ap}
use Rattle.lease_table.specs.Tables.{Standing}
use Rattle.job_calls.specs.declared.call.ClusterCall.TheVariants as call
use Rattle.job_calls.specs.declared.reply.ClusterReply.TheVariants as reply
use Rattle.cluster.specs.continued.Clusters.{LeadsTo}
use Rattle.cluster.proofs.Playing.{only_told}
use Rattle.cluster.proofs.cluster.Cluster.rows.Goals as goal

pub returns : goal.returns
unfolding LeadsTo
returns c = λ job past k.
    only_told job past call.Rows (reply.Rows c.from_vec.result) c.args.self.now k
    (true, tt, ap (λ rows. reply.Rows rows) (c.from_vec.ensures ∙ c.in_ok-rows.ensures ∙ ap (λ (t : Standing). t.rows) k.table)) refl (λ n. refl) (λ n. refl) refl refl
