use Rattle.std.proofs.Common.{◌≡◌, ◌++◌, drop, map, take}
use Rattle.cluster.specs.Pasts.{Past}
use Rattle.cluster.specs.continued.Clusters.{LeadsTo}
use Rattle.cluster.specs.continued.Jobs.{Continued, job_in}
use Rattle.log_trace.specs.internals.Taking.{taking_after}
use Rattle.log_trace.proofs.takings.Takings.watch.Given as goal

-- the first handles are as they are after the call
abbrev pub invariant-loop-place : goal.invariant-loop-place
invariant-loop-place l = (job : Continued) (past : Past) → LeadsTo job past l.cluster
    → l.self.all.items ≡ map (taking_after (job_in job) past l.index) (take l.place l.initial.self.all.items) ++ drop l.place l.initial.self.all.items
