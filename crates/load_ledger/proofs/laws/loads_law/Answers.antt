use Rattle.load_ledger.proofs.Counting.{loads_add_up}
use Rattle.load_ledger.proofs.laws.loads_law.Goals as goal

pub returns : goal.returns
returns c = λ slices shares accepted. loads_add_up slices accepted shares
