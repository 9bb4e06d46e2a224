use Rattle.live_run.proofs.LiveTaskMembers.{none_missing}
use Rattle.live_run.proofs.live_task.dismiss.Goals as goal

pub unreachable-requires : goal.unreachable-requires
unreachable-requires c =
    let passes = c.args.gathered.passes in
    none_missing passes.len c.args.slicelet.lock.opened.lanes passes.items c.requires.gathered.lanes passes.ok.0 c.requires.many c.in_default.ensures.missing.2
