use Rattle.std.proofs.Common.{ℕ}
use Rattle.job_calls.specs.Jobs.{Job}
use Rattle.cluster.specs.Pasts.{Past, task_calls}
use Rattle.stretches.specs.Stretches.{AreStretches}
use Rattle.stretches.specs.Tasks.{Each, AreKept}
use Rattle.stretches.proofs.job_stretches.JobStretches.stretches.Given as goal

-- the tasks so far
abbrev pub invariant-loop-kept : goal.invariant-loop-kept
invariant-loop-kept l = (job : Job) (past : Past) (key : ℕ) → AreKept job past key l.self
    → Each (λ task. AreStretches key (task_calls task past)) l.kept-index l.all.items
