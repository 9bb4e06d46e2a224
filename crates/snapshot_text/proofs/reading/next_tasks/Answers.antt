use Rattle.snapshot_text.specs.Texts.{NextTask}
use Rattle.snapshot_text.proofs.Loops.{each_more, one_more}
use Rattle.snapshot_text.proofs.reading.next_tasks.Goals as goal

pub loop-taken-preserved : goal.loop-taken-preserved
loop-taken-preserved c =
    rw c.in_ok-push.ensures.items (record {
      count = one_more c.loop-taken.tasks.items c.in_ok-next_task.field-0 c.loop-taken._taken c.loop-taken.invariant.count;
      says = each_more (NextTask c.args.job.now) c.loop-taken.tasks.items c.in_ok-next_task.field-0 c.args.lines.now c.loop-taken.lines c.next_task.new.lines
          c.loop-taken.invariant.says c.in_ok-next_task.ensures.ok;
    })
