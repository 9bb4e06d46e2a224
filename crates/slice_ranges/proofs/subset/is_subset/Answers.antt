use Rattle.std.proofs.Common.{◌+◌}
use Rattle.slice_ranges.proofs.Containment.{none_left, past_low_range, past_inner_range, others_left, keys_left, low_outside, high_outside, joined}
use Rattle.slice_ranges.proofs.subset.is_subset.Goals.{else-low-start-via-then-low-start+else-end-high, else-low-start-via-else-low-start}
use Rattle.slice_ranges.proofs.subset.is_subset.Goals as goal

pub returns-in_default-first_range : goal.returns-in_default-first_range
returns-in_default-first_range c =
    let inv = c.loop-start.invariant in
    let out = none_left _ _ _ _ _ _ _ c.in-Some.ensures inv.keys_left.1 inv.others_left.1 c.in_default-first_range.ensures in
    (λ e. absurd (cc), λ f. absurd (out (inv.same.0 f)))

pub loop-start-preserved-then-high-start : goal.loop-start-preserved-then-high-start
loop-start-preserved-then-high-start c =
    let inv = c.loop-start.invariant in
    let keys = c.in-Some.ensures in
    let others = c.in-Some-first_range.ensures in
    record {
      same = joined inv.same (past_low_range _ _ _ _ _ _ _ keys inv.keys_left.1 inv.others_left.1 _ _ _ others c.if-high-start.true);
      keys_left = inv.keys_left;
      others_left = (c.in-Some-first_range.high + 1, others_left _ _ _ _ _ _ _ keys inv.keys_left.1 inv.others_left.1 _ _ _ others);
    }

pub loop-start-preserved : goal.loop-start-preserved
loop-start-preserved c =
    let inv = c.loop-start.invariant in
    let keys = c.in-Some.ensures in
    let others = c.in-Some-first_range.ensures in
    record {
      same = joined inv.same (past_inner_range _ _ _ _ _ _ _ keys inv.keys_left.1 inv.others_left.1 _ _ _ others c.if-low-start.true c.if-end-high.true);
      keys_left = (c.in-Some.end + 1, keys_left _ _ _ _ _ _ _ keys inv.keys_left.1 inv.others_left.1);
      others_left = inv.others_left;
    }

pub returns-else-low-start : goal.returns-else-low-start
returns-else-low-start c =
    let inv = c.loop-start.invariant in
    let keys = c.in-Some.ensures in
    let others = c.in-Some-first_range.ensures in
    elim c.else-low-start.branch [
      | else-low-start-via-then-low-start+else-end-high w ↦ (λ e. absurd (cc), λ f. absurd (high_outside _ _ _ _ _ _ _ keys inv.keys_left.1 inv.others_left.1 _ _ _ others c.if-high-start.false w.if-end-high.false (inv.same.0 f)))
      | else-low-start-via-else-low-start w ↦ (λ e. absurd (cc), λ f. absurd (low_outside _ _ _ _ _ _ _ keys inv.keys_left.1 inv.others_left.1 _ _ _ others w.if-low-start.false (inv.same.0 f)))
    ]
