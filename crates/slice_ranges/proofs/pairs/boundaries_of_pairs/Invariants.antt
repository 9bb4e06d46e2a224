use Rattle.std.proofs.Common.{drop}
use Rattle.slice_ranges.proofs.Joining.{IsJoined}
use Rattle.slice_ranges.proofs.pairs.boundaries_of_pairs.Given as goal

abbrev pub invariant-loop-pair : goal.invariant-loop-pair
invariant-loop-pair l = IsJoined l.pairs (drop l.pair-index l.pairs) l.boundaries.items l.inside l.end
