use Rattle.live_run.proofs.LiveTaskMembers.{members_all}
use Rattle.live_run.proofs.live_task.work_all.Goals as goal

pub work_each-requires-clause-workers : goal.work_each-requires-clause-workers
work_each-requires-clause-workers g c κs within = members_all c.args.shared.now.slicelet.now c.args.shared.now.ticket.now 1 c.args.workers.items c.requires.workers
