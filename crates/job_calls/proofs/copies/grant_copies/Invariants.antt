use Rattle.std.proofs.Common.{◌≡◌, take}
use Rattle.job_calls.proofs.copies.grant_copies.Given as goal

-- the copies so far
abbrev pub invariant-loop-grant : goal.invariant-loop-grant
invariant-loop-grant l = l.copies.items ≡ take l.grant-index l.grants
