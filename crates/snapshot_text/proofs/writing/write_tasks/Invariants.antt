use Rattle.std.proofs.Common.{◌≡◌, ◌++◌, take}
use Rattle.std.specs.List.{flat_map}
use Rattle.snapshot_text.specs.Texts.{AreTasksReadBack, task_text}
use Rattle.snapshot_text.proofs.writing.write_tasks.Given as goal

abbrev pub invariant-loop-task : goal.invariant-loop-task
invariant-loop-task l = record {
  lines : l.text.items ≡ l.fn.text.items ++ flat_map (task_text l.job) (take l.task-index l.tasks);
  reads : AreTasksReadBack l.job (take l.task-index l.tasks);
}
