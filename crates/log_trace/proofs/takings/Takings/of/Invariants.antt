use Rattle.cluster.specs.continued.Jobs.{Continued}
use Rattle.log_run.specs.Starts.{Begins}
use Rattle.log_trace.specs.internals.Taking.{AreWatchedTo}
use Rattle.log_trace.proofs.takings.Takings.of.Given as goal

-- the entries so far
abbrev pub invariant-loop-index : goal.invariant-loop-index
invariant-loop-index l = (job : Continued) → Begins job l.fn.start → AreWatchedTo job l.entries l.index l.machines l.takings.all.items
