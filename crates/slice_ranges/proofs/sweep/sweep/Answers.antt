use Rattle.std.proofs.Common.{◌+◌, refl, sym, ◌∙◌}
use Rattle.slice_ranges.proofs.Sweeping.{sweep_start, sweep_same, sweep_turn, sweep_ranges, same_flag, other_flag}
use Rattle.slice_ranges.proofs.sweep.sweep.Goals as goal

pub loop-key-init : goal.loop-key-init
loop-key-init c = (0, sweep_start _ _ _ _ c.requires.first c.requires.second c.new-boundaries.ensures.items)

pub loop-key-preserved-then-now-inside : goal.loop-key-preserved-then-now-inside
loop-key-preserved-then-now-inside c =
    (c.in-Some.key + 1, rw c.in_ok-push.ensures.items (sweep_turn _ _ _ _ _ _ _ _ _ _ _ c.in-Some.key _ _ _ _ c.loop-key.invariant.1 (c.in-Some.ensures.some _ refl) c.boundaries_above.ensures c.boundaries_above-in-Some.ensures c.apply-now.result c.apply-now.ensures (other_flag _ _ c.if-now-inside.true)))

pub loop-key-preserved : goal.loop-key-preserved
loop-key-preserved c =
    (c.in-Some.key + 1, sweep_same _ _ _ _ _ _ _ _ _ _ _ c.in-Some.key _ _ _ _ c.loop-key.invariant.1 (c.in-Some.ensures.some _ refl) c.boundaries_above.ensures c.boundaries_above-in-Some.ensures (sym c.apply-now.ensures ∙ same_flag _ _ c.if-now-inside.false))

pub returns-clause-ranges : goal.returns-clause-ranges
returns-clause-ranges c =
    let none = c.in_default.ensures.none refl in
    let keys = sweep_ranges _ _ _ _ _ _ _ _ _ _ c.requires.first c.requires.second c.loop-key.invariant.1 none.0 none.1 in keys.0

pub returns-clause-keys : goal.returns-clause-keys
returns-clause-keys c =
    let none = c.in_default.ensures.none refl in
    let keys = sweep_ranges _ _ _ _ _ _ _ _ _ _ c.requires.first c.requires.second c.loop-key.invariant.1 none.0 none.1 in keys.1
