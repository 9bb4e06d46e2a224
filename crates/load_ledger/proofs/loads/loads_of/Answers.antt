use Rattle.std.proofs.Common.{◌∙◌}
use Rattle.load_ledger.specs.declared.share.TheConstants.{MOST_TOTAL}
use Rattle.load_ledger.proofs.Loading.{no_loads, small_before}
use Rattle.load_ledger.proofs.loads.loads_of.Goals as goal

pub loop-share-init : goal.loop-share-init
loop-share-init c = c.in_ok-loads.ensures.items_if_clones_equal (λ y e. e) ∙ no_loads c.args.slices.now c.args.slices.now

pub add_records-requires-clause-small : goal.add_records-requires-clause-small
add_records-requires-clause-small c =
    rw c.records.ensures (small_before MOST_TOTAL c.args.slices.now c.args.shares.now c.loop-share.share-index c.share-item.result c.deref_mut.result.now c.loop-share-test.true c.share-item.is c.requires.small (c.deref_mut.ensures.value ∙ c.loop-share.invariant))
