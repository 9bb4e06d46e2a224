use Rattle.std.proofs.Common.{map, take, reverse}
use Rattle.cluster.specs.Timeliness.{IsTimelinessOf}
use Rattle.world.specs.Pasts.{reading}
use Rattle.world.proofs.readings.timely.Given as goal

-- the readings of the steps so far were taken
abbrev pub invariant-loop-step : goal.invariant-loop-step
invariant-loop-step l = IsTimelinessOf l.skew (map reading (reverse (take l.step-index l.steps))) l.readings
