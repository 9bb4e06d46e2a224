use Rattle.std.proofs.Common.{◌≡◌, map, take}
use Rattle.weighted_move.specs.Kinds.{load_changes_of}
use Rattle.weighted_move.proofs.load_changes.load_changes_of.Given as goal

abbrev pub invariant-loop-slice : goal.invariant-loop-slice
invariant-loop-slice l = l.changes.items ≡ map (load_changes_of l.redundancy) (take l.slice-index l.slices)
