use Rattle.std.proofs.Common.{◌≡◌, take}
use Rattle.lease_table.proofs.key_sets.copies.Given as goal

abbrev pub invariant-loop-set : goal.invariant-loop-set
invariant-loop-set l = l.copied.items ≡ take l.set-index l.sets
