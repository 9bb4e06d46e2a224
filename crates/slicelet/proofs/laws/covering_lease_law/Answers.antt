use Rattle.slicelet.proofs.Allowing.{covering_lease, permitting_lease}
use Rattle.slicelet.proofs.laws.covering_lease_law.Goals as goal

pub returns-clause-allowed : goal.returns-clause-allowed
returns-clause-allowed c = λ covers h at kind generation allowed. covering_lease kind generation covers h at allowed

pub returns-clause-permitted : goal.returns-clause-permitted
returns-clause-permitted c = λ covers h at permitted. permitting_lease covers h at permitted
