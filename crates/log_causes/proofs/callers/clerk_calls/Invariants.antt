use Rattle.std.proofs.Common.{◌≡◌, ℕ, take, nat_eq, unwrap_or}
use Rattle.std.specs.HashMap as hash
use Rattle.log_causes.specs.Callers.{calls_where, is_of_clerk}
use Rattle.log_causes.proofs.callers.clerk_calls.Given as goal

abbrev pub invariant-loop-entry : goal.invariant-loop-entry
invariant-loop-entry l = (clerk : ℕ) → unwrap_or (hash.get nat_eq l.counts clerk) 0 ≡ calls_where (is_of_clerk clerk) (take l.entry-index l.entries)
