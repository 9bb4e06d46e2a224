use Rattle.log_causes.proofs.causes.grant_cause.Goals as goal

pub returns-in-None : goal.returns-in-None
returns-in-None c = λ job past leads. (rw c.in_default.is at c.in_ok-place.ensures, rw c.in-None.is at (c.in_ok-changed.ensures job past leads))
