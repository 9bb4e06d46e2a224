use Rattle.slicelet.specs.States.{opening}
use Rattle.cluster.specs.ActorLists.{AreActors}
use Rattle.cluster.proofs.cluster.tasks_of.Given as goal

-- the actors so far
abbrev pub invariant-loop-place : goal.invariant-loop-place
invariant-loop-place l = AreActors opening l.place l.tasks.items
