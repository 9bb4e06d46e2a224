use Rattle.std.proofs.Common.{◌≡◌, take}
use Rattle.c_calls.proofs.assignments.slice_checks.owners_of.Given as goal

abbrev pub invariant-loop-task : goal.invariant-loop-task
invariant-loop-task l = l.owners.items ≡ take l.task-index l.tasks
