use Rattle.std.proofs.Common.{◌≡◌, map, take}
use Rattle.world.specs.Pasts.{reading}
use Rattle.trace_text.proofs.readings.readings_of.Given as goal

-- the readings so far
abbrev pub invariant-loop-step : goal.invariant-loop-step
invariant-loop-step l = l.readings.items ≡ map reading (take l.step-index l.steps)
