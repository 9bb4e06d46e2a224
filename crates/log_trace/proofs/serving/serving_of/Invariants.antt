use Rattle.log_trace.specs.internals.Watching.{AreServed}
use Rattle.log_trace.proofs.serving.serving_of.Given as goal

-- the entries so far
abbrev pub invariant-loop-index : goal.invariant-loop-index
invariant-loop-index l = AreServed l.fn.job l.fn.key l.entries l.index l.machines l.kept
