use Rattle.std.proofs.Common.{length}
use Rattle.weighted_move.proofs.task_set.+rise_from.Given as goal

abbrev pub decreases-rise_from : goal.decreases-rise_from
decreases-rise_from l = length l.tasks.now
