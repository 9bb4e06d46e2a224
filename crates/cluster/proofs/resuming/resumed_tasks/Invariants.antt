use Rattle.cluster.specs.internals.Resuming.{AreResumed}
use Rattle.cluster.proofs.resuming.resumed_tasks.Given as goal

-- the slicelets so far
abbrev pub invariant-loop-place : goal.invariant-loop-place
invariant-loop-place l = AreResumed l.place l.fn.tasks l.slicelets.items
