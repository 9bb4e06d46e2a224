use Rattle.slicelet.proofs.OwnLeases.{own_leases}
use Rattle.slicelet.proofs.laws.held_law.Goals as goal

pub returns : goal.returns
returns c = λ task h accepted. own_leases task h accepted
