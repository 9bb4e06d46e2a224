use Rattle.std.proofs.Common.{◌≡◌, take}
use Rattle.job_calls.proofs.copies.assignment_copies.Given as goal

-- the copies so far
abbrev pub invariant-loop-assignment : goal.invariant-loop-assignment
invariant-loop-assignment l = l.copies.items ≡ take l.assignment-index l.assignments
