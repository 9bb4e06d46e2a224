use Rattle.std.proofs.Common.{◌≡◌, ◌++◌, map, take}
use Rattle.job_calls.specs.declared.call.ClusterCall.TheVariants as call
use Rattle.audit.specs.OneRun.{entry_turn}
use Rattle.audit.specs.Shown.{turn_of}
use Rattle.audit.proofs.points.add_task.Given as goal

-- the entries so far were added
abbrev pub invariant-loop-entry : goal.invariant-loop-entry
invariant-loop-entry l = map turn_of l.points.items ≡ map turn_of l.initial.points.items ++ map (entry_turn (call.Task l.task)) (take l.entry-index l.entries)
