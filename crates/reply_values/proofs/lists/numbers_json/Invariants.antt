use Rattle.std.proofs.Common.{◌≡◌, map, take}
use Rattle.serde_json.specs.View.{view}
use Rattle.wire.specs.Objects.{number_data}
use Rattle.reply_values.proofs.lists.numbers_json.Given as goal

abbrev pub invariant-loop-number : goal.invariant-loop-number
invariant-loop-number l = map view l.list.items ≡ map number_data (take l.number-index l.numbers)
