use Rattle.std.proofs.Common.{◌≡◌, ℕ, ◌+◌, length, take}
use Rattle.std.specs.Prelude.{if◌then◌else◌}
use Rattle.assignment.specs.Slices.{is_among}
use Rattle.weighted_move.specs.Loads.{load_in}
use Rattle.weighted_move.proofs.task_loads.TaskLoads.add.Given as goal

abbrev pub invariant-loop-owner : goal.invariant-loop-owner
invariant-loop-owner l = record {
  all : length l.self-inside.by_number ≡ 65;
  loads : (task : ℕ) → load_in l.self-inside.by_number task ≡ load_in l.initial.self-inside.by_number task + (if is_among (take l.owner-index l.owner-items) task then l.share else 0);
}
