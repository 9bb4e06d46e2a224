use Rattle.std.proofs.Common.{arith, rules}
use Rattle.clocks.specs.Drifts.{most_gain}
use Rattle.clocks.proofs.drift.Drift.wide_gain.Goals as goal

pub returns-then-beyond : goal.returns-then-beyond
unfolding most_gain
returns-then-beyond c = search rules

pub returns-else-beyond : goal.returns-else-beyond
unfolding most_gain
returns-else-beyond c = omega (arith, c.div_up-beyond.ensures, c.if-beyond.false)
