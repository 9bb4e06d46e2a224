use Rattle.cluster.specs.Pasts.{table_calls}
use Rattle.cluster.proofs.TableRuns.{table_run}
use Rattle.cluster.proofs.Agreeing.{agree}
use Rattle.cluster.proofs.laws.covers_law.Goals as goal

pub returns : goal.returns
returns c = λ job past task key within run inside.
    agree job past task key run (λ grant sent. c.covers_law.ensures.sent job.policy (table_calls past) grant key within (table_run job past run) sent inside)
