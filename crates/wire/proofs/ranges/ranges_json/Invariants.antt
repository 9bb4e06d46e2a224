use Rattle.std.proofs.Common.{◌≡◌, ◌++◌, length, map}
use Rattle.serde_json.specs.View.{view}
use Rattle.wire.specs.Ranges.{pair_data, pairs_of}
use Rattle.wire.proofs.ranges.ranges_json.Given as goal

abbrev pub invariant-pairs : goal.invariant-pairs
invariant-pairs l = map view l.pairs.items ++ map (pair_data l.numerals) (pairs_of l.rest) ≡ map (pair_data l.numerals) (pairs_of l.ranges)

abbrev pub decreases-pairs : goal.decreases-pairs
decreases-pairs l = length l.rest
