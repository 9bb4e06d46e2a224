use Rattle.history_lock.specs.internals.Seats.{AreCopies}
use Rattle.history_lock.proofs.turn.owners.Given as goal

abbrev pub invariant-loop-done : goal.invariant-loop-done
invariant-loop-done g l = AreCopies l.machine l.done l.made.items
