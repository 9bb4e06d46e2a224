use Rattle.std.proofs.Common.{◌+◌, refl}
use Rattle.key_handle.proofs.Restamping.{sweep_start, sweep_same, sweep_level, sweep_falls, sweep_end, same_stamp}
use Rattle.key_handle.proofs.sweep.sweep.Goals as goal

pub loop-key-init : goal.loop-key-init
loop-key-init c = (0, sweep_start _ _ _ _ _ c.requires.levels c.requires.before c.requires.after c.new-written.ensures.items)

pub loop-key-smaller-then-ne : goal.loop-key-smaller-then-ne
loop-key-smaller-then-ne c = sweep_falls _ _ _ _ _ _ _ _ _ _ _ _ _ (c.in-Some.ensures.some _ refl) c.levels_above.ensures c.boundaries_above.ensures c.boundaries_above-in-Some.ensures

pub loop-key-smaller : goal.loop-key-smaller
loop-key-smaller c = sweep_falls _ _ _ _ _ _ _ _ _ _ _ _ _ (c.in-Some.ensures.some _ refl) c.levels_above.ensures c.boundaries_above.ensures c.boundaries_above-in-Some.ensures

pub loop-key-preserved-then-ne : goal.loop-key-preserved-then-ne
loop-key-preserved-then-ne c =
    let level = sweep_level _ _ _ _ _ _ _ _ _ _ _ _ _ c.in-Some.key _ _ _ _ _ _ c.loop-key.invariant.1 (c.in-Some.ensures.some _ refl) c.levels_above.ensures c.boundaries_above.ensures c.boundaries_above-in-Some.ensures in
    (c.in-Some.key + 1, rw c.in_ok-push.ensures.items (level c.restamped-now.result c.restamped-now.ensures))

pub loop-key-preserved : goal.loop-key-preserved
loop-key-preserved c =
    let same = sweep_same _ _ _ _ _ _ _ _ _ _ _ _ _ c.in-Some.key _ _ _ _ _ _ c.loop-key.invariant.1 (c.in-Some.ensures.some _ refl) c.levels_above.ensures c.boundaries_above.ensures c.boundaries_above-in-Some.ensures in
    (c.in-Some.key + 1, same c.restamped-now.result c.restamped-now.ensures (same_stamp _ _ c.if-ne.ensures))

pub returns-clause-levels : goal.returns-clause-levels
returns-clause-levels c =
    let none = c.in_default.ensures.none refl in
    let done = sweep_end _ _ _ _ _ _ _ _ _ _ _ _ c.loop-key.invariant.0 c.loop-key.invariant.1 none.0 none.1 none.2 in done.0

pub returns-clause-keys : goal.returns-clause-keys
returns-clause-keys c =
    let none = c.in_default.ensures.none refl in
    let done = sweep_end _ _ _ _ _ _ _ _ _ _ _ _ c.loop-key.invariant.0 c.loop-key.invariant.1 none.0 none.1 none.2 in done.1
