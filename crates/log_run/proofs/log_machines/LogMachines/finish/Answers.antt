use Rattle.log_run.proofs.log_machines.LogMachines.finish.Goals as goal

pub returns : goal.returns
returns c = λ job past known run. c.in_ok-finish.ensures.leads job past known.leads run (rw c.in-Some.is at known.recorded)
