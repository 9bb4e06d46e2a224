use Rattle.std.proofs.Common.{◌≡◌, map, take}
use Rattle.serde_json.specs.View.{view}
use Rattle.wire.specs.Objects.{number_data}
use Rattle.reply_values.proofs.lists.tasks_json.Given as goal

abbrev pub invariant-loop-task : goal.invariant-loop-task
invariant-loop-task l = map view l.list.items ≡ map number_data (take l.task-index l.tasks)
