use Rattle.std.proofs.Common.{◌∙◌, ap}
use Rattle.indexmap.specs.IndexSet.{contains}
use Rattle.cluster.specs.Made.{same_note}
use Rattle.cluster.specs.continued.Clusters.{LeadsTo}
use Rattle.cluster.proofs.cluster.Cluster.is_made.Goals as goal

pub returns : goal.returns
unfolding LeadsTo
returns c = λ job past k. c.contains.ensures ∙ ap (contains same_note c.args.self.now.known_notes) c.new.ensures ∙ k.known_notes c.args.note.now
