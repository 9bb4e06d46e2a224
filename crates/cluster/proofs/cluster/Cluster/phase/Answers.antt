use Rattle.std.proofs.Common.{◌∙◌, ap}
use Rattle.lease_table.specs.Tables.{phase_of}
use Rattle.cluster.specs.continued.Clusters.{LeadsTo}
use Rattle.cluster.proofs.cluster.Cluster.phase.Goals as goal

pub returns : goal.returns
unfolding LeadsTo
returns c = λ job past k. c.phase.ensures ∙ ap phase_of k.table
