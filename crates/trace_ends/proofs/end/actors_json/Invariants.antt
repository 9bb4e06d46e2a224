use Rattle.std.proofs.Common.{◌≡◌, map, take}
use Rattle.serde_json.specs.View.{view}
use Rattle.trace_ends.specs.Ends.{actor_data}
use Rattle.trace_ends.proofs.end.actors_json.Given as goal

abbrev pub invariant-loop-one : goal.invariant-loop-one
invariant-loop-one l = map view l.list.items ≡ map actor_data (take l.one-index l.taken)
