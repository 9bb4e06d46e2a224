use Rattle.std.proofs.Common.{rules, ◌≡◌}
use Rattle.clocks.specs.Drifts.{most_gain}
use Rattle.clocks.specs.Rounding.{div_up}
use Rattle.clocks.proofs.drift.Drift.quick_gain.Goals as goal

pub returns-then-raised : goal.returns-then-raised
unfolding most_gain div_up
returns-then-raised c = search rules
