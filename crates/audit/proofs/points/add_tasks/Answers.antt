use Rattle.std.proofs.Common.{map}
use Rattle.job_calls.specs.declared.call.ClusterCall.TheVariants as call
use Rattle.audit.specs.Shown.{turn_of}
use Rattle.audit.proofs.Turning.{add_more}
use Rattle.audit.proofs.points.add_tasks.Goals as goal

pub loop-place-preserved : goal.loop-place-preserved
loop-place-preserved c =
    add_more call.Task c.args.histories.now c.loop-place.place c.index-histories-place.result c.index-histories-place.result (map turn_of c.args.points.now.items) (map turn_of c.loop-place.points.items)
    _ c.loop-place-test.true c.index-histories-place.is c.loop-place.invariant (rw c.entries.ensures at c.in_ok-add_task.ensures)
