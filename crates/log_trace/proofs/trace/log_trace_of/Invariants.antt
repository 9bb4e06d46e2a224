use Rattle.cluster.specs.continued.Jobs.{Continued}
use Rattle.log_run.specs.Starts.{Begins}
use Rattle.log_trace.specs.internals.Tracing.{AreTraced}
use Rattle.log_trace.proofs.trace.log_trace_of.Given as goal

-- the entries so far
abbrev pub invariant-loop-index : goal.invariant-loop-index
invariant-loop-index l = (job : Continued) → Begins job l.fn.start → AreTraced job l.entries l.index l.trace l.tracer
