use Rattle.log_run.proofs.judging.state_of.Goals as goal

pub returns-in-Some-clause-state : goal.returns-in-Some-clause-state
returns-in-Some-clause-state c = λ job past known run. (rw c.in-Some.is at (c.in_ok-state.ensures job past known)) run
