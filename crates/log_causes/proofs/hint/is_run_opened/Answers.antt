use Rattle.log_causes.proofs.hint.is_run_opened.Goals as goal

pub returns : goal.returns
returns c = λ job begins. rw c.in_ok-line.ensures at (c.in_ok-is_run.ensures job begins)
