use Rattle.std.proofs.Common.{arith}
use Rattle.std.proofs.lemmas.Grind.{common_steps}
use Rattle.std.proofs.lemmas.List.Sums.{count_by_more_yes, count_by_more_no, count_by-le-length}
use Rattle.log_causes.specs.Callers.{calls_where}
use Rattle.log_causes.proofs.callers.clerk_calls.Goals.{in-Some+in_ok-counts, in_default}
use Rattle.log_causes.proofs.callers.clerk_calls.Goals as goal

pub loop-entry-init : goal.loop-entry-init
unfolding calls_where
loop-entry-init c = λ clerk. grind (arith, common_steps)

pub overflow_add-counts : goal.overflow_add-counts
unfolding calls_where
overflow_add-counts c = grind (arith, common_steps, count_by-le-length, c.loop-entry.invariant c.in-Some.clerk)

pub loop-entry-preserved : goal.loop-entry-preserved
unfolding calls_where
loop-entry-preserved c = λ clerk. elim c.match-clerk_of.branch [
  | in-Some+in_ok-counts w ↦ grind (arith, common_steps, count_by_more_yes, count_by_more_no, c.loop-entry.invariant clerk)
  | in_default w ↦ grind (arith, common_steps, count_by_more_no, c.loop-entry.invariant clerk)
]
