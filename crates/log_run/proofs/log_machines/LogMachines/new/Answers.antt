use Rattle.log_run.proofs.Starting.{none_unsent}
use Rattle.log_run.proofs.log_machines.LogMachines.new.Goals as goal

pub returns : goal.returns
returns c = λ job begins. record { leads = c.in_ok-cluster.ensures job begins; recorded = c.in_ok-run.ensures job begins; sent = none_unsent job }
