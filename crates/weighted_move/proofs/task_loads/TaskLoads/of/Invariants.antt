use Rattle.std.proofs.Common.{◌≡◌, ℕ, take}
use Rattle.weighted_move.specs.Loads.{load_in, load_of}
use Rattle.weighted_move.proofs.task_loads.TaskLoads.of.Given as goal

abbrev pub invariant-loop-slice : goal.invariant-loop-slice
invariant-loop-slice l = (task : ℕ) → load_in l.loads task ≡ load_of (take l.slice-index l.slices) task
