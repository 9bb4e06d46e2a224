use Rattle.log_run.proofs.Days.{days}
use Rattle.log_run.proofs.laws.days_law.Goals as goal

pub returns-clause-run : goal.returns-clause-run
returns-clause-run c = λ own remembered. days c.continued_law.ensures.whole own remembered

pub returns-clause-timely : goal.returns-clause-timely
returns-clause-timely c = λ own remembered before later past after first second start. second (first start)
