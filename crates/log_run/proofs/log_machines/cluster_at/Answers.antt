use Rattle.log_run.proofs.Starting.{machines_go_on}
use Rattle.log_run.proofs.log_machines.cluster_at.Goals as goal

pub returns-in-Ok : goal.returns-in-Ok
returns-in-Ok c = λ job begins.
    machines_go_on job c.args.start.now.job c.in-Some.snapshot c.in-Ok.cluster (rw c.in-Some.is at begins) (λ past is. c.in-Ok.ensures.leads past is)
