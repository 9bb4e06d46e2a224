use Rattle.snapshot_text.specs.Texts.{IsTaskReadBack, task_text}
use Rattle.snapshot_text.proofs.Loops.{all_more, text_more}
use Rattle.snapshot_text.proofs.writing.write_tasks.Goals as goal

pub loop-task-preserved : goal.loop-task-preserved
loop-task-preserved c =
    let job = c.args.job.now in
    let tasks = c.args.tasks.now in
    let i = c.loop-task.task-index in
    let below = c.loop-task-test.true in
    record {
      lines = text_more (task_text job) tasks i c.task-item.result c.args.text.now.items c.loop-task.text.items c.write_task.new.text.items below c.task-item.is
          c.loop-task.invariant.lines c.in_ok-write_task.ensures.lines;
      reads = all_more (IsTaskReadBack job) tasks i c.task-item.result below c.task-item.is c.loop-task.invariant.reads c.in_ok-write_task.ensures.reads;
    }
