use Rattle.cluster.specs.ActorLists.{AreActors}
use Rattle.run_record.specs.internals.{new_task}
use Rattle.run_record.proofs.actors.new_tasks.Given as goal

-- the tasks so far
abbrev pub invariant-loop-place : goal.invariant-loop-place
invariant-loop-place l = AreActors (λ n. new_task) l._place l.tasks.items
