use Rattle.std.proofs.Common.{◌∙◌, ap}
use Rattle.machines.specs.Refusals.{first_of}
use Rattle.lease_table.specs.Tables.{Standing}
use Rattle.lease_table.specs.Steps.{propose_checks}
use Rattle.cluster.specs.continued.Clusters.{LeadsTo}
use Rattle.cluster.proofs.cluster.Cluster.proposal_refusal.Goals as goal

pub returns : goal.returns
unfolding LeadsTo
returns c = λ job past k.
    c.propose_refusal.ensures ∙ ap (λ (t : Standing). first_of (propose_checks t c.args.number (record { generation = c.args.generation; slices = c.args.slices.now }) c.args.at)) k.table
