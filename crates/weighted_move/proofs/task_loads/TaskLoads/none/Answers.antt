use Rattle.weighted_move.proofs.Loading.{zeros}
use Rattle.weighted_move.proofs.task_loads.TaskLoads.none.Goals as goal

pub returns : goal.returns
returns c task = zeros 65 task
