use Rattle.std.proofs.Common.{refl}
use Rattle.assignment.specs.Owners.{tasks}
use Rattle.load_ledger.proofs.book.LoadBook.new.Goals as goal

pub returns : goal.returns
unfolding tasks
returns c = refl
