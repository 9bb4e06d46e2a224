use Rattle.cluster.specs.continued.Clusters.{LeadsTo}
use Rattle.cluster.proofs.Playing.{refused_leads}
use Rattle.cluster.proofs.cluster.Cluster.refusal_law.Goals as goal

pub returns : goal.returns
unfolding LeadsTo
returns c = λ job past call why k answered. refused_leads job past call why c.args.self.now k answered
