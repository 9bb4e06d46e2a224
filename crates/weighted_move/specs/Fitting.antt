-- Slices that are given a number of owners, one after another.
use Rattle.std.specs.Prelude.{◌≡◌, ◌≤◌, ℕ, zero, suc, ◌-◌, true, not, nat_le, List, [], ◌∷◌, ◌++◌, length, filter, fold, Option, Some, None, if◌then◌else◌}
use Rattle.assignment.specs.Slices.{is_among}
use Rattle.weighted_move.specs.declared.redundancy.Redundancy.{Redundancy}
use Rattle.weighted_move.specs.declared.loaded_slice.LoadedSlice.{LoadedSlice}
use Rattle.weighted_move.specs.Owning.{with_task, without_task}
use Rattle.weighted_move.specs.Loads.{load_of, load_in}

-- of the task so far and the next one, the one with the greater load, or the first
abbrev pub heavier : (ℕ → ℕ) → Option ℕ → ℕ → ℕ
heavier load None task = task
heavier load (Some known) task = if nat_le (load task) (load known) then known else task

-- the first task of a list that has the greatest load
abbrev pub most_loaded : (ℕ → ℕ) → List ℕ → Option ℕ
most_loaded load tasks = fold (λ known task. Some (heavier load known task)) None tasks

-- of the task so far and the next one, the one with the smaller load, or the first
abbrev pub lighter : (ℕ → ℕ) → Option ℕ → ℕ → ℕ
lighter load None task = task
lighter load (Some known) task = if nat_le (load known) (load task) then known else task

-- the first task of a list that has the least load
abbrev pub least_loaded : (ℕ → ℕ) → List ℕ → Option ℕ
least_loaded load tasks = fold (λ known task. Some (lighter load known task)) None tasks

-- a task of a set has the greatest load, and the lowest number of those that have it
pub record HasGreatestLoad (load : ℕ → ℕ) (tasks : List ℕ) (task : ℕ) : Type 0 where
  pub among : is_among tasks task ≡ true
  pub greatest : (other : ℕ) → is_among tasks other ≡ true → load other ≤ load task
  pub lowest : (other : ℕ) → is_among tasks other ≡ true → load other ≡ load task → task ≤ other

-- such a task is chosen, and none where there are no tasks
abbrev pub IsMostLoaded : (ℕ → ℕ) → List ℕ → Option ℕ → Type 0
IsMostLoaded load tasks None = tasks ≡ []
IsMostLoaded load tasks (Some task) = HasGreatestLoad load tasks task

-- a task of a set has the least load, and the lowest number of those that have it
pub record HasLeastLoad (load : ℕ → ℕ) (tasks : List ℕ) (task : ℕ) : Type 0 where
  pub among : is_among tasks task ≡ true
  pub least : (other : ℕ) → is_among tasks other ≡ true → load task ≤ load other
  pub lowest : (other : ℕ) → is_among tasks other ≡ true → load other ≡ load task → task ≤ other

-- such a task is chosen, and none where there are no tasks
abbrev pub IsLeastLoaded : (ℕ → ℕ) → List ℕ → Option ℕ → Type 0
IsLeastLoaded load tasks None = tasks ≡ []
IsLeastLoaded load tasks (Some task) = HasLeastLoad load tasks task

-- the tasks that are no owners
abbrev pub strangers : List ℕ → List ℕ → List ℕ
strangers tasks owners = filter (λ t. not (is_among owners t)) tasks

-- a slice without an owner, if one is named, or with one more
abbrev pub without_owner : Option ℕ → LoadedSlice → LoadedSlice
without_owner None slice = slice
without_owner (Some task) slice = record slice { owners = without_task task slice.owners }

abbrev pub with_owner : Option ℕ → LoadedSlice → LoadedSlice
with_owner None slice = slice
with_owner (Some task) slice = record slice { owners = with_task task slice.owners }

-- a slice without its owner of the greatest load, by the loads of the tasks
unfoldable pub less_one : (ℕ → ℕ) → LoadedSlice → LoadedSlice
less_one load slice = without_owner (most_loaded load slice.owners) slice

-- a slice with the task of the least load that is no owner of it
unfoldable pub plus_one : (ℕ → ℕ) → List ℕ → LoadedSlice → LoadedSlice
plus_one load tasks slice = with_owner (least_loaded load (strangers tasks slice.owners)) slice

-- a slice that loses so many owners, one after another, by the loads of the list as it then stands:
-- the slices before it, the slice, and those after it
abbrev pub slice_after_losses : ℕ → List LoadedSlice → LoadedSlice → List LoadedSlice → LoadedSlice
slice_after_losses zero before slice after = slice
slice_after_losses (suc count) before slice after = slice_after_losses count before (less_one (load_of (before ++ slice ∷ after)) slice) after

-- a slice that gets so many owners
abbrev pub slice_after_gains : List ℕ → ℕ → List LoadedSlice → LoadedSlice → List LoadedSlice → LoadedSlice
slice_after_gains tasks zero before slice after = slice
slice_after_gains tasks (suc count) before slice after = slice_after_gains tasks count before (plus_one (load_of (before ++ slice ∷ after)) tasks slice) after

-- a slice that loses the owners above the greatest number, or gets those that it lacks for the least
abbrev pub fitted_slice : List ℕ → Redundancy → List LoadedSlice → LoadedSlice → List LoadedSlice → LoadedSlice
fitted_slice tasks redundancy before slice after =
    slice_after_gains tasks (redundancy.low - length slice.owners) before (slice_after_losses (length slice.owners - redundancy.high) before slice after) after

-- the slices, each in turn, where those before are fitted
abbrev pub fitted_slices_from : List ℕ → Redundancy → List LoadedSlice → List LoadedSlice → List LoadedSlice
fitted_slices_from tasks redundancy before [] = before
fitted_slices_from tasks redundancy before (slice ∷ after) = fitted_slices_from tasks redundancy (before ++ fitted_slice tasks redundancy before slice after ∷ []) after

abbrev pub fitted_slices : List ℕ → Redundancy → List LoadedSlice → List LoadedSlice
fitted_slices tasks redundancy slices = fitted_slices_from tasks redundancy [] slices

-- a slice is fitted among others, and the loads are those of the list as it then stands
pub record IsFittedBy (tasks : List ℕ) (redundancy : Redundancy) (before : List LoadedSlice) (old : LoadedSlice) (after : List LoadedSlice) (loads : List ℕ) (new : LoadedSlice) : Type 0 where
  pub fitted : new ≡ fitted_slice tasks redundancy before old after
  pub stands : (task : ℕ) → load_in loads task ≡ load_of (before ++ new ∷ after) task
