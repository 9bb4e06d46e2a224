use Rattle.std.proofs.Common.{◌≡◌, ◌+◌, take}
use Rattle.std.specs.Prelude.{sum}
use Rattle.load_ledger.specs.declared.share.TheConstants.{MOST_TOTAL}
use Rattle.load_ledger.specs.Books.{shares_total}
use Rattle.load_ledger.proofs.book.LoadBook.gather_refusal.Given as goal

abbrev pub invariant-loop-share : goal.invariant-loop-share
invariant-loop-share l = l.left + shares_total (take l.share-index l.shares) + sum l.self ≡ MOST_TOTAL
