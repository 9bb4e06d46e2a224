use Rattle.std.proofs.Common.{◌≡◌, take}
use Rattle.c_calls.proofs.plans.set_of.Given as goal

abbrev pub invariant-loop-number : goal.invariant-loop-number
invariant-loop-number l = l.tasks.items ≡ take l.number-index l.numbers
