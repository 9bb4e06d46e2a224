use Rattle.std.proofs.Common.{◌≡◌, take}
use Rattle.history_lock.proofs.entry.history_of.Given as goal

abbrev pub invariant-loop-entry : goal.invariant-loop-entry
invariant-loop-entry g l = l.copied.items ≡ take l.entry-index l.entry-items
