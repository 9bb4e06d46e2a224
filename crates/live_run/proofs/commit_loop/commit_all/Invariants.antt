use Rattle.std.proofs.Common.{◌≡◌, false}
use Rattle.live_run.specs.internals.Callers.{KeepsCaller}
use Rattle.live_run.proofs.commit_loop.commit_all.Given as goal

abbrev pub invariant-loop-generation : goal.invariant-loop-generation
invariant-loop-generation g l = record {
  kept : KeepsCaller l.initial.caller l.caller;
  fed : l.caller.notes.starved ≡ false;
}
