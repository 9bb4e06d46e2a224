use Rattle.std.proofs.Common.{◌≡◌, ◌++◌, drop}
use Rattle.weighted_move.specs.SliceLoads.{slices_with_loads}
use Rattle.weighted_move.proofs.with_loads.slices_with_loads.Given as goal

abbrev pub invariant-loop-index : goal.invariant-loop-index
invariant-loop-index l = slices_with_loads l.tasks l.slices l.loads ≡ l.list.items ++ slices_with_loads l.tasks (drop l.index l.slices) (drop l.index l.loads)
