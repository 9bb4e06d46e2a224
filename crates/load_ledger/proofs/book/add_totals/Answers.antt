use Rattle.std.proofs.Common.{◌≡◌, ◌<◌, ◌≤◌, ◌-◌, ◌∙◌, ℕ, length, arith, length-set, rules, take}
use Rattle.std.proofs.lemmas.List.{take_all}
use Rattle.std.proofs.lemmas.List.Sums.{sum_by_more}
use Rattle.load_ledger.specs.Shares.{share_total}
use Rattle.load_ledger.specs.Books.{weight_of}
use Rattle.load_ledger.proofs.Totals.{totals_on, totals_are, sum_on}
use Rattle.load_ledger.proofs.book.add_totals.Goals as goal

pub loop-share-init : goal.loop-share-init
unfolding weight_of
loop-share-init c = search rules

pub loop-share-preserved : goal.loop-share-preserved
loop-share-preserved c =
    let so_far = c.loop-share.invariant in
    let number : c.number.result ≡ c.share-item.result.task = c.number.ensures.value ∙ c.task.ensures in
    let high : c.number.result ≤ length c.loop-share.totals = omega (arith, so_far.each) in
    let within : c.number.result - 1 < length c.loop-share.totals = omega (arith, so_far.each) in
    record {
      each = omega (arith, so_far.each, length-set {A = ℕ});
      totals = rw c.total.ensures.value (totals_on c.args.totals.now c.loop-share.totals c.args.shares.now c.loop-share.share-index c.share-item.result c.number.result c.loop-share-test.true c.share-item.is number c.number.ensures.low high so_far.totals);
      sum = rw (c.total.ensures.value, sum_on c.loop-share.totals (c.number.result - 1) (share_total c.share-item.result) _ within so_far.sum, sum_by_more share_total c.args.shares.now c.loop-share.share-index c.share-item.result c.loop-share-test.true, ← c.share-item.is) (omega arith);
    }

pub returns-clause-totals : goal.returns-clause-totals
returns-clause-totals c =
    let all : take c.loop-share.share-index c.args.shares.now ≡ c.args.shares.now = take_all c.loop-share.share-index c.args.shares.now c.loop-share-test.false in
    totals_are _ c.loop-share.totals c.loop-share.invariant.each (rw all at c.loop-share.invariant.totals)
