use Rattle.live_run.proofs.OpenedRunPasses.{live_tasks_all}
use Rattle.live_run.proofs.run.run_live_tasks.Goals as goal

pub run_each-requires-clause-live_tasks : goal.run_each-requires-clause-live_tasks
run_each-requires-clause-live_tasks g c κs within = live_tasks_all c.args.objects.now.table c.args.objects.now.ticket c.args.job.workers 1 c.args.live_tasks.items c.requires.live_tasks
