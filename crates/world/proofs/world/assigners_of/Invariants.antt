use Rattle.std.specs.Prelude.{None}
use Rattle.assigner.specs.Terms.{Keeping}
use Rattle.cluster.specs.Clusters.{AreActors}
use Rattle.world.proofs.world.assigners_of.Given as goal

-- the actors so far
abbrev pub invariant-loop-place : goal.invariant-loop-place
invariant-loop-place l = AreActors (λ n. let a : Keeping = record { id = n; job_term = l.term; term = None } in a) l.place l.assigners.items
