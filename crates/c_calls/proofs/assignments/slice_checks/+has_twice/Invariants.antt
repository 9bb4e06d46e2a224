use Rattle.std.proofs.Common.{length}
use Rattle.c_calls.proofs.assignments.slice_checks.+has_twice.Given as goal

abbrev pub decreases-has_twice : goal.decreases-has_twice
decreases-has_twice l = length l.owners.now
