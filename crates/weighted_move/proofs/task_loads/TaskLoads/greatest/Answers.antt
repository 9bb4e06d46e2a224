use Rattle.std.proofs.Common.{sym, arith}
use Rattle.weighted_move.specs.Loads.{load_in}
use Rattle.weighted_move.proofs.Gains.{greatest_none, greatest_more}
use Rattle.weighted_move.proofs.task_loads.TaskLoads.greatest.Goals as goal

pub loop-task-init : goal.loop-task-init
loop-task-init c = sym (greatest_none (load_in c.args.self.now))

pub loop-task-preserved : goal.loop-task-preserved
loop-task-preserved c =
    let more = greatest_more (load_in c.args.self.now) c.args.tasks.now c.loop-task.task-index c.task-item.result c.loop-task-test.true c.task-item.is in
    let known = c.loop-task.invariant in
    omega (arith, more, known, c.max-most.ensures, c.of_task.ensures)
