-- Slices with a width and a load, and the load of a task by a list of them.
use Rattle.std.specs.Prelude.{◌≡◌, ℕ, ◌+◌, ◌^◌, ◌<◌, All, List, [], ◌∷◌, length, sum_by, slice_index, if◌then◌else◌}
use Rattle.std.specs.Int.{div_ceil}
use Rattle.slice_ranges.specs.declared.key.TheConstants.{KEYS}
use Rattle.assignment.specs.Slices.{is_among}
use Rattle.weighted_move.specs.declared.loaded_slice.LoadedSlice.{LoadedSlice}

-- the load of a slice divided by its number of owners, rounded up
unfoldable pub share_of : LoadedSlice → ℕ
share_of slice = div_ceil slice.load (length slice.owners)

-- what a slice adds to the load of a task
unfoldable pub added_to : ℕ → LoadedSlice → ℕ
added_to task slice = if is_among slice.owners task then share_of slice else 0

-- the load of a task: the sum of the shares of the slices that it owns
unfoldable pub load_of : List LoadedSlice → ℕ → ℕ
load_of slices task = sum_by (added_to task) slices

-- the load of all slices together
abbrev pub total_load : List LoadedSlice → ℕ
total_load slices = sum_by (λ s. s.load) slices

-- loads in the order of their tasks' numbers, as a function of the task
abbrev pub load_in : List ℕ → ℕ → ℕ
load_in loads task = slice_index loads task

-- the slices follow one another from one key up to another, and each has a key
abbrev pub Tiles : ℕ → List LoadedSlice → ℕ → Type 0
Tiles low [] high = low ≡ high
Tiles low (slice ∷ slices) high = (slice.start ≡ low) × (0 < slice.width) × Tiles (low + slice.width) slices high

-- a slice has an owner
abbrev pub IsOwned : LoadedSlice → Type 0
IsOwned slice = 0 < length slice.owners

-- slices that cover the key space, each with an owner, and not too great a load together
pub record IsCover (slices : List LoadedSlice) : Type 0 where
  pub some : 0 < length slices
  pub tiles : Tiles 0 slices KEYS
  pub small : total_load slices < 2 ^ 60
  pub owned : All IsOwned slices
