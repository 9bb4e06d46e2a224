use Rattle.std.proofs.Common.{List, ◌+◌, sym, subst}
use Rattle.std.specs.Prelude.{None}
use Rattle.assigner.specs.Terms.{Keeping}
use Rattle.cluster.specs.Clusters.{AreActors}
use Rattle.cluster.proofs.ActorLists.{actors_push}
use Rattle.world.proofs.world.assigners_of.Goals as goal

pub loop-place-preserved : goal.loop-place-preserved
loop-place-preserved c =
    subst (λ (xs : List Keeping). AreActors (λ n. let a : Keeping = record { id = n; job_term = c.job-term.result; term = None } in a) (c.loop-place.place + 1) xs) (sym c.in_ok-push.ensures.items)
    (actors_push (λ n. let a : Keeping = record { id = n; job_term = c.job-term.result; term = None } in a) c.loop-place.place c.loop-place.assigners.items c.new.result c.loop-place.invariant c.new.ensures)
