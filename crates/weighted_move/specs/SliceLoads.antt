-- Slices of an assignment with their loads.
use Rattle.std.specs.Prelude.{ℕ, ◌-◌, ◌&&◌, List, [], ◌∷◌}
use Rattle.slice_ranges.specs.declared.key.TheConstants.{KEYS}
use Rattle.assignment.specs.declared.slice.Slice.{Slice}
use Rattle.assignment.specs.Slices.{is_among}
use Rattle.weighted_move.specs.declared.loaded_slice.LoadedSlice.{LoadedSlice}
use Rattle.weighted_move.specs.Owning.{tasks_where}

-- where the next slice starts, or the end of the key space
abbrev pub next_start : List Slice → ℕ
next_start [] = KEYS
next_start (slice ∷ slices) = slice.start

-- a slice with its width and a load, and those of its owners that are in a set
abbrev pub slice_with_load : List ℕ → Slice → ℕ → ℕ → LoadedSlice
slice_with_load tasks slice end load = record {
  start = slice.start;
  width = end - slice.start;
  load = load;
  owners = tasks_where (λ t. is_among slice.owners t && is_among tasks t);
}

-- the slices with their loads, in order
abbrev pub slices_with_loads : List ℕ → List Slice → List ℕ → List LoadedSlice
slices_with_loads tasks [] loads = []
slices_with_loads tasks (slice ∷ slices) [] = []
slices_with_loads tasks (slice ∷ slices) (load ∷ loads) = slice_with_load tasks slice (next_start slices) load ∷ slices_with_loads tasks slices loads
