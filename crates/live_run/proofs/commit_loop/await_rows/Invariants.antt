use Rattle.std.proofs.Common.{◌≡◌, false}
use Rattle.live_run.specs.internals.Callers.{KeepsCaller}
use Rattle.live_run.proofs.commit_loop.await_rows.Given as goal

abbrev pub invariant-loop : goal.invariant-loop
invariant-loop g l = record {
  kept : KeepsCaller l.initial.caller l.caller;
  fed : l.caller.notes.starved ≡ false;
}
