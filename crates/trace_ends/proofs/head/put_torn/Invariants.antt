use Rattle.std.proofs.Common.{◌≡◌, map, take}
use Rattle.serde_json.specs.View.{view}
use Rattle.trace_ends.specs.Heads.{log_line_data}
use Rattle.trace_ends.proofs.head.put_torn.Given as goal

abbrev pub invariant-loop-at : goal.invariant-loop-at
invariant-loop-at l = map view l.list.items ≡ map log_line_data (take l.at-index l.torn)
