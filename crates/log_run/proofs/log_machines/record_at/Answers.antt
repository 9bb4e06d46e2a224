use Rattle.log_run.proofs.Starting.{record_goes_on}
use Rattle.log_run.proofs.log_machines.record_at.Goals as goal

pub returns-in_ok-of-in-Some : goal.returns-in_ok-of-in-Some
returns-in_ok-of-in-Some c = λ job begins.
    record_goes_on job c.args.start.now.job c.in-Some.snapshot c.in_ok-of-in-Some.field-0 (rw c.in-Some.is at begins)
    (λ own past is. c.in_ok-of-in-Some.ensures.leads own past is)
