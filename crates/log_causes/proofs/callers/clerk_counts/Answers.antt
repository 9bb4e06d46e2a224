use Rattle.std.proofs.Common.{◌≡◌, ℕ, arith, subst}
use Rattle.log_causes.specs.Callers.{calls_where, clerk_counts, counted, each_to, is_of_clerk}
use Rattle.log_causes.proofs.callers.clerk_counts.Goals as goal

-- the loop has gone through all clerks
pub returns : goal.returns
unfolding clerk_counts
returns c =
    let clerks = c.clerks-place-end.ensures.value in
    let all : c.loop-place.place ≡ c.args.job.clerks = omega (arith, clerks) in
    subst (λ (n : ℕ). c.loop-place.counts.items ≡ each_to (λ m. counted m (calls_where (is_of_clerk m) c.args.entries.now)) n)
    all c.loop-place.invariant
