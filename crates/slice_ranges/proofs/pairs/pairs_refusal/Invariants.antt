use Rattle.std.proofs.Common.{◌≡◌, drop}
use Rattle.slice_ranges.specs.Sets.{refusal_from}
use Rattle.slice_ranges.proofs.pairs.pairs_refusal.Given as goal

abbrev pub invariant-loop-pair : goal.invariant-loop-pair
invariant-loop-pair l = refusal_from 0 l.pairs ≡ refusal_from l.end (drop l.pair-index l.pairs)
