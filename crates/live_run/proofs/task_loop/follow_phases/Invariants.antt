use Rattle.std.proofs.Common.{◌≡◌, false}
use Rattle.live_run.specs.internals.Callers.{KeepsTaskCaller}
use Rattle.live_run.proofs.task_loop.follow_phases.Given as goal

abbrev pub invariant-loop : goal.invariant-loop
invariant-loop g l = record {
  kept : KeepsTaskCaller l.initial.caller l.caller;
  fed : l.caller.table.notes.starved ≡ false;
}
