use Rattle.cluster.proofs.Remembering.{run_remembered, whole_run}
use Rattle.cluster.proofs.laws.continued_law.Goals as goal

pub returns-clause-earlier : goal.returns-clause-earlier
returns-clause-earlier c = λ job past remembered run. run_remembered job past remembered run

pub returns-clause-whole : goal.returns-clause-whole
returns-clause-whole c = λ job past later remembered before run sent. whole_run job past later remembered before run sent
