use Rattle.std.proofs.Common.{◌∙◌, ap}
use Rattle.indexmap.specs.IndexSet.{contains}
use Rattle.cluster.specs.Made.{same_handle}
use Rattle.cluster.specs.continued.Clusters.{LeadsTo}
use Rattle.cluster.proofs.cluster.Cluster.is_given.Goals as goal

pub returns : goal.returns
unfolding LeadsTo
returns c = λ job past k. c.contains.ensures ∙ ap (contains same_handle c.args.self.now.known_handles) c.new.ensures ∙ k.known_handles c.args.handle.now
