use Rattle.indexmap.specs.IndexSet.{contains}
use Rattle.cluster.specs.Made.{same_handle}
use Rattle.cluster.proofs.Knowing.{same_handle_turned}
use Rattle.cluster.proofs.Rebuilding.{known_more}
use Rattle.cluster.proofs.resuming.known_handles.Goals as goal

pub loop-handle-preserved : goal.loop-handle-preserved
loop-handle-preserved c =
    known_more same_handle same_handle_turned c.args.handles.now c.loop-handle.handle-index c.handle-item.result c.loop-handle-test.true c.handle-item.is
    (contains same_handle c.loop-handle.known) (contains same_handle c.insert_reserved.new.known) c.loop-handle.invariant
    (λ handle. rw (c.new.ensures, c.in_ok-reserve.ensures.keys) at c.insert_reserved.ensures.members handle)
