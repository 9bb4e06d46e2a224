use Rattle.std.proofs.Common.{◌≡◌, ◌++◌, map, take}
use Rattle.job_calls.specs.declared.call.ClusterCall.TheVariants as call
use Rattle.audit.specs.OneRun.{turns_from}
use Rattle.audit.specs.Shown.{turn_of}
use Rattle.audit.proofs.points.add_tasks.Given as goal

-- the histories so far were added
abbrev pub invariant-loop-place : goal.invariant-loop-place
invariant-loop-place l = map turn_of l.points.items ≡ map turn_of l.initial.points.items ++ turns_from call.Task 1 (take l.place l.histories)
