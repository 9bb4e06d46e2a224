use Rattle.std.proofs.Common.{ℕ, ◌+◌, length}
use Rattle.std.specs.Prelude.{◌↔◌}
use Rattle.slice_ranges.specs.Sets.{IsSubset}
use Rattle.slice_ranges.proofs.Containment.{AreBoundaries}
use Rattle.slice_ranges.proofs.subset.is_subset.Given as goal

abbrev pub invariant-loop-start : goal.invariant-loop-start
invariant-loop-start l = record {
  same : IsSubset l.keys l.others ↔ IsSubset l.keys_rest l.others_rest;
  keys_left : (low : ℕ) × AreBoundaries low l.keys_rest;
  others_left : (low : ℕ) × AreBoundaries low l.others_rest;
}

abbrev pub decreases-loop-start : goal.decreases-loop-start
decreases-loop-start l = length l.keys_rest + length l.others_rest
