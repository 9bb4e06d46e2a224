use Rattle.cluster.specs.continued.Jobs.{from_start}
use Rattle.cluster.specs.Pasts.{table_calls}
use Rattle.cluster.proofs.TableRuns.{table_run}
use Rattle.cluster.proofs.GrantOrder.{commits_grow_over, in_order}
use Rattle.cluster.proofs.laws.order_law.Goals as goal

pub returns-clause-commits : goal.returns-clause-commits
returns-clause-commits c = λ later past. commits_grow_over later past

pub returns-clause-grants : goal.returns-clause-grants
returns-clause-grants c = λ job past grant later within run sent also low.
    in_order job.policy within (table_calls past) (table_run (from_start job) past run) grant later sent also low
