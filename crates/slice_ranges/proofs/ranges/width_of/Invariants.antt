use Rattle.std.proofs.Common.{drop}
use Rattle.slice_ranges.proofs.Widths.{IsCounted}
use Rattle.slice_ranges.proofs.ranges.width_of.Given as goal

abbrev pub invariant-loop-boundary : goal.invariant-loop-boundary
invariant-loop-boundary l = IsCounted l.boundaries (drop l.boundary-index l.boundaries) l.inside l.last l.total
