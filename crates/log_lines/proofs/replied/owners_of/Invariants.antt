use Rattle.std.proofs.Common.{◌≡◌, take}
use Rattle.log_lines.proofs.replied.owners_of.Given as goal

abbrev pub invariant-loop-number : goal.invariant-loop-number
invariant-loop-number l = l.owners.items ≡ take l.number-index l.numbers
