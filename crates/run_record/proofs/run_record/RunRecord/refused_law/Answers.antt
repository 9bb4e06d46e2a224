use Rattle.cluster.specs.continued.Jobs.{job_in}
use Rattle.run_record.proofs.Refusals.{task_refused, clerk_refused}
use Rattle.run_record.proofs.run_record.RunRecord.refused_law.Goals as goal

pub returns-clause-task : goal.returns-clause-task
returns-clause-task c = λ job past task made why is. task_refused (job_in job) past c.args.self.now is task why made

pub returns-clause-clerk : goal.returns-clause-clerk
returns-clause-clerk c = λ job past clerk made why is. clerk_refused (job_in job) past c.args.self.now is clerk why made
