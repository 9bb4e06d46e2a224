use Rattle.std.proofs.Common.{◌≡◌, take}
use Rattle.weighted_move.specs.Loads.{load_in}
use Rattle.weighted_move.specs.Fitting.{least_loaded}
use Rattle.weighted_move.proofs.task_loads.TaskLoads.lowest.Given as goal

abbrev pub invariant-loop-task : goal.invariant-loop-task
invariant-loop-task l = l.least ≡ least_loaded (load_in l.self) (take l.task-index l.tasks)
