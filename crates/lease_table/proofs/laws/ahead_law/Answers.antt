use Rattle.lease_table.proofs.SavingAhead.{covering}
use Rattle.lease_table.proofs.laws.ahead_law.Goals as goal

pub returns : goal.returns
returns c = λ policy past saved run covers. covering policy past saved run covers
