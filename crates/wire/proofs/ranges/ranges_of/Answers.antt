use Rattle.serde_json.specs.View.{view}
use Rattle.wire.proofs.Pairs.{ranges_are}
use Rattle.wire.proofs.ranges.ranges_of.Goals as goal

pub returns : goal.returns
returns c =
    ranges_are c.args.numerals (view c.args.value.now) c.in_ok-pairs.pairs c.as_slice.result.now c.in_ok-ranges.ranges c.in_ok-pairs.ensures c.as_slice.ensures c.in_ok-ranges.ensures.accepted c.boundaries-boundaries.ensures.ranges c.in_ok-ranges.ensures.keys
