use Rattle.std.proofs.Common.{◌≡◌}
use Rattle.log_causes.specs.Callers.{calls_where, counted, each_to, is_of_clerk}
use Rattle.log_causes.proofs.callers.clerk_counts.Given as goal

-- the clerks so far
abbrev pub invariant-loop-place : goal.invariant-loop-place
invariant-loop-place l = l.counts.items ≡ each_to (λ n. counted n (calls_where (is_of_clerk n) l.entries)) l.place
