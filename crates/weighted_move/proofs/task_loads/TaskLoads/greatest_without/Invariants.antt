use Rattle.std.proofs.Common.{◌≡◌, take}
use Rattle.weighted_move.specs.Loads.{load_in}
use Rattle.weighted_move.specs.Owning.{without_task}
use Rattle.weighted_move.specs.Moves.{greatest}
use Rattle.weighted_move.proofs.task_loads.TaskLoads.greatest_without.Given as goal

abbrev pub invariant-loop-task : goal.invariant-loop-task
invariant-loop-task l = l.most ≡ greatest (load_in l.self) (without_task l.left_out (take l.task-index l.tasks))
