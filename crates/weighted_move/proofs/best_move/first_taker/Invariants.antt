use Rattle.std.proofs.Common.{take}
use Rattle.weighted_move.specs.Loads.{load_in}
use Rattle.weighted_move.proofs.Seeking.{IsTakerSoFar}
use Rattle.weighted_move.proofs.best_move.first_taker.Given as goal

abbrev pub invariant-loop-task : goal.invariant-loop-task
invariant-loop-task l = IsTakerSoFar (load_in l.loads) (take l.task-index l.tasks) l.owners l.room l.best l.least
