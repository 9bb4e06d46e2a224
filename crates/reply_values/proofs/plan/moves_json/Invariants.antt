use Rattle.std.proofs.Common.{◌≡◌, map, take}
use Rattle.serde_json.specs.View.{view}
use Rattle.reply_values.specs.Replies.{move_data}
use Rattle.reply_values.proofs.plan.moves_json.Given as goal

abbrev pub invariant-loop-one : goal.invariant-loop-one
invariant-loop-one l = map view l.list.items ≡ map move_data (take l.one-index l.moves)
