use Rattle.std.proofs.Common.{length}
use Rattle.c_calls.proofs.plans.+rise_from.Given as goal

abbrev pub decreases-rise_from : goal.decreases-rise_from
decreases-rise_from l = length l.numbers.now
