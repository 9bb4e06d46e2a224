use Rattle.std.specs.Prelude.{Option, None}
use Rattle.assignment.specs.Slices.{Slicing}
use Rattle.cluster.specs.ActorLists.{AreActors}
use Rattle.run_record.proofs.actors.new_clerks.Given as goal

-- the clerks so far
abbrev pub invariant-loop-place : goal.invariant-loop-place
invariant-loop-place l = AreActors (λ n. let c : Option Slicing = None in c) l._place l.clerks.items
