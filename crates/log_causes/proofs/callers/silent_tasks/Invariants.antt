use Rattle.std.proofs.Common.{◌≡◌}
use Rattle.log_causes.specs.Callers.{each_to, silent}
use Rattle.log_causes.proofs.callers.silent_tasks.Given as goal

-- the silent ones of the tasks so far
abbrev pub invariant-loop-place : goal.invariant-loop-place
invariant-loop-place l = l.tasks.items ≡ each_to (silent l.entries) l.place
