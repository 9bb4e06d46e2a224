use Rattle.std.proofs.Common.{[]}
use Rattle.stretches.specs.Tasks.{Each, AreKeptOn}
use Rattle.stretches.proofs.job_stretches.JobStretches.new.Given as goal

-- the tasks so far
abbrev pub invariant-loop-place : goal.invariant-loop-place
invariant-loop-place l = Each (λ task. AreKeptOn l.key task []) l._place l.tasks.items
