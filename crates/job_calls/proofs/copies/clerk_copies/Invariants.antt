use Rattle.std.proofs.Common.{◌≡◌, take}
use Rattle.job_calls.proofs.copies.clerk_copies.Given as goal

-- the copies so far
abbrev pub invariant-loop-clerk : goal.invariant-loop-clerk
invariant-loop-clerk l = l.copies.items ≡ take l.clerk-index l.clerks
