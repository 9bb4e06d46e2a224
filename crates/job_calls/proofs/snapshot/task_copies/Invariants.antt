use Rattle.std.proofs.Common.{◌≡◌, take}
use Rattle.job_calls.proofs.snapshot.task_copies.Given as goal

-- the copies so far
abbrev pub invariant-loop-task : goal.invariant-loop-task
invariant-loop-task l = l.copies.items ≡ take l.task-index l.tasks
