use Rattle.std.proofs.Common.{◌≡◌, map, take}
use Rattle.serde_json.specs.View.{view}
use Rattle.wire.specs.Objects.{number_data}
use Rattle.wire.proofs.slicing.owners_json.Given as goal

abbrev pub invariant-loop-owner : goal.invariant-loop-owner
invariant-loop-owner l = map view l.list.items ≡ map number_data (take l.owner-index l.owners)
