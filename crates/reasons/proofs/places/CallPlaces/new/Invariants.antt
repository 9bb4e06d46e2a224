use Rattle.std.specs.Prelude.{[]}
use Rattle.cluster.specs.ActorLists.{AreActors}
use Rattle.reasons.specs.Placed.{places_of}
use Rattle.reasons.proofs.places.CallPlaces.new.Given as goal

-- the tasks so far
abbrev pub invariant-loop-task : goal.invariant-loop-task
invariant-loop-task l = AreActors (λ task. places_of task []) l._task l.places.items
