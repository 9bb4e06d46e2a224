-- the writes so far that the store took
use Rattle.store_writes.specs.internals.Firsts.{AreTakenBefore}
use Rattle.store_writes.proofs.taken.taken_in.Given as goal

abbrev pub invariant-loop-index : goal.invariant-loop-index
invariant-loop-index l = AreTakenBefore l.events l.index l.taken.items
