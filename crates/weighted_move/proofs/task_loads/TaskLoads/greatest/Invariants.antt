use Rattle.std.proofs.Common.{◌≡◌, take}
use Rattle.weighted_move.specs.Loads.{load_in}
use Rattle.weighted_move.specs.Moves.{greatest}
use Rattle.weighted_move.proofs.task_loads.TaskLoads.greatest.Given as goal

abbrev pub invariant-loop-task : goal.invariant-loop-task
invariant-loop-task l = l.most ≡ greatest (load_in l.self) (take l.task-index l.tasks)
