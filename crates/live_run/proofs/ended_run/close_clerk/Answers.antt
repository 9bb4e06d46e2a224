use Rattle.live_run.proofs.LiveTaskMembers.{none_missing}
use Rattle.live_run.proofs.ended_run.close_clerk.Goals as goal

pub unreachable-requires : goal.unreachable-requires
unreachable-requires c =
    let passes = c.args.passes in
    none_missing passes.len c.args.clerk.lock.opened.lanes passes.items c.requires.lanes passes.ok.0 c.requires.many c.in_default.ensures.missing.2
