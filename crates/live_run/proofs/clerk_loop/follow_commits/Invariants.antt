use Rattle.std.proofs.Common.{◌≡◌, false}
use Rattle.live_run.specs.internals.Callers.{KeepsClerkCaller}
use Rattle.live_run.proofs.clerk_loop.follow_commits.Given as goal

abbrev pub invariant-loop : goal.invariant-loop
invariant-loop g l = record {
  kept : KeepsClerkCaller l.initial.caller l.caller;
  fed : l.caller.table.notes.starved ≡ false;
}
