use Rattle.cluster.specs.continued.Jobs.{from_start}
use Rattle.cluster.proofs.TableRuns.{table_run}
use Rattle.cluster.proofs.TaskAcceptance.{accepted_calls}
use Rattle.cluster.proofs.laws.told_law.Goals as goal

pub returns-clause-table : goal.returns-clause-table
returns-clause-table c = λ job past run. table_run (from_start job) past run

pub returns-clause-tasks : goal.returns-clause-tasks
returns-clause-tasks c = λ job past task run. accepted_calls (from_start job) past task run
