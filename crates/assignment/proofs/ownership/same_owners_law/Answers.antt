use Rattle.assignment.proofs.RisingOwners.{same_built}
use Rattle.assignment.proofs.ownership.same_owners_law.Goals as goal

pub returns : goal.returns
returns c = same_built
