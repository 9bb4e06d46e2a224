use Rattle.slicelet.specs.NextActions.{next_action}
use Rattle.fence.proofs.Caring.{gives_up_carefully}
use Rattle.fence.proofs.laws.care_law.Goals as goal

pub returns : goal.returns
returns c = λ s phase at kind e. gives_up_carefully s (next_action s phase at) kind e
