use Rattle.std.proofs.Common.{List, ◌+◌, sym, subst}
use Rattle.std.specs.Prelude.{Option, None}
use Rattle.assignment.specs.Slices.{Slicing}
use Rattle.cluster.specs.ActorLists.{AreActors}
use Rattle.cluster.proofs.ActorLists.{actors_push}
use Rattle.run_record.proofs.actors.new_clerks.Goals as goal

pub loop-place-preserved : goal.loop-place-preserved
loop-place-preserved c =
    subst (λ (xs : List (Option Slicing)). AreActors (λ n. let c : Option Slicing = None in c) (c.loop-place._place + 1) xs) (sym c.in_ok-push.ensures.items)
    (actors_push (λ n. let c : Option Slicing = None in c) c.loop-place._place c.loop-place.clerks.items c.new.result c.loop-place.invariant c.new.ensures)
