use Rattle.std.proofs.Common.{List, ◌+◌, [], sym, subst}
use Rattle.cluster.specs.ActorLists.{AreActors}
use Rattle.cluster.proofs.ActorLists.{actors_push}
use Rattle.reasons.specs.declared.places.TaskPlaces.{TaskPlaces}
use Rattle.reasons.specs.Placed.{places_of}
use Rattle.reasons.proofs.places.CallPlaces.new.Goals as goal

pub loop-task-preserved : goal.loop-task-preserved
loop-task-preserved c =
    subst (λ (xs : List TaskPlaces). AreActors (λ task. places_of task []) (c.loop-task._task + 1) xs) (sym c.in_ok-push.ensures.items)
    (actors_push (λ task. places_of task []) c.loop-task._task c.loop-task.places.items c.no_places.result c.loop-task.invariant c.no_places.ensures)
