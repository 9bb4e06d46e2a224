use Rattle.job_fence.proofs.Examples.{job, holds, falls, early, late, wide}
use Rattle.job_fence.proofs.laws.examples_law.Goals as goal

pub returns-clause-holds : goal.returns-clause-holds
returns-clause-holds c = (job, holds)

pub returns-clause-falls : goal.returns-clause-falls
returns-clause-falls c = (job, falls)

pub returns-clause-early : goal.returns-clause-early
returns-clause-early c = (job, early)

pub returns-clause-late : goal.returns-clause-late
returns-clause-late c = (job, late)

pub returns-clause-wide : goal.returns-clause-wide
returns-clause-wide c = (job, wide)
