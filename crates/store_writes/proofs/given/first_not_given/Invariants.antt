-- the tokens so far are known, and each write so far had one of them
use Rattle.store_writes.specs.internals.Firsts.{AllGivenBefore, AreGiven}
use Rattle.store_writes.proofs.given.first_not_given.Given as goal

abbrev pub invariant-loop-index : goal.invariant-loop-index
invariant-loop-index l = record { given : AreGiven l.events l.index l.given; before : AllGivenBefore l.events l.index }
