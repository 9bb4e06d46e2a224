use Rattle.std.proofs.Common.{◌<◌, length, arith, add-one, drop-cons}
use Rattle.std.proofs.lemmas.List.{drop_all}
use Rattle.slice_ranges.proofs.Widths.{count_start, count_step, count_end}
use Rattle.slice_ranges.proofs.ranges.width_of.Goals as goal

pub loop-boundary-init : goal.loop-boundary-init
loop-boundary-init c = count_start _ c.requires

pub overflow_add-total : goal.overflow_add-total
overflow_add-total c =
    let l : c.loop-boundary.boundary-index < length c.args.boundaries.now = omega arith in
    let s = count_step _ _ _ _ _ _ _ c.loop-boundary.invariant (drop-cons c.args.boundaries.now c.loop-boundary.boundary-index 0 l) in
    rw c.width_between-total.ensures (omega (arith, s.1, s.2.within))

pub loop-boundary-preserved : goal.loop-boundary-preserved
loop-boundary-preserved c =
    let l : c.loop-boundary.boundary-index < length c.args.boundaries.now = omega arith in
    let s = count_step _ _ _ _ _ _ _ c.loop-boundary.invariant (drop-cons c.args.boundaries.now c.loop-boundary.boundary-index 0 l) in
    rw (add-one, c.width_between-total.ensures) s.2

pub returns : goal.returns
returns c = count_end _ _ _ _ _ c.requires c.loop-boundary.invariant (drop_all _ _ c.loop-boundary-test.false)
