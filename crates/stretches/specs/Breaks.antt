-- When handles break.
use Rattle.std.specs.Prelude.{◌≡◌, ℕ, ◌≤◌, ◌<◌, Bool, true, false, not, ◌&&◌, List, Some, slice_get}
use Rattle.key_handle.specs.declared.handle.KeyHandle.{KeyHandle}
use Rattle.grants.specs.declared.slicelet_call.SliceletCall.{SliceletCall}
use Rattle.slicelet.specs.Continuity.{is_kept, is_strange}
use Rattle.slicelet.specs.States.{SliceletState, state_after}
use Rattle.stretches.specs.declared.breaks.GivenHandle.{GivenHandle}
use Rattle.stretches.specs.declared.breaks.TaskHandles.{TaskHandles}
use Rattle.stretches.specs.Stretches.{calls_through, calls_up_to, processes}

-- a check at a reading finds a handle continuous, by what a slicelet knows
abbrev pub is_found_in : SliceletState → KeyHandle → ℕ → Bool
is_found_in s handle at = not (is_strange s handle) && is_kept s handle at

-- the same by the calls that a process of the task accepted up to that reading
abbrev pub is_found_at : ℕ → List SliceletCall → ℕ → KeyHandle → ℕ → Bool
is_found_at task calls process handle at = is_found_in (state_after task (calls_up_to at (calls_through process calls))) handle at

-- a reading is the first one from another on at which something is not found
pub record IsFirstWithout (is_found : ℕ → Bool) (from breaks : ℕ) : Type 0 where
  pub late : from ≤ breaks
  pub found : (at : ℕ) → from ≤ at → at < breaks → is_found at ≡ true
  pub broken : is_found breaks ≡ false

-- of a handle that a process of the task gave: at these readings of its clock, and no later ones, a check finds it continuous
pub record IsBreakOf (task : ℕ) (calls : List SliceletCall) (given : GivenHandle) : Type 0 where
  pub process : given.process ≤ processes calls
  pub first : IsFirstWithout (is_found_at task calls given.process given.handle) given.from given.breaks

-- what is kept of the handles of a task after these calls
pub record AreBreaks (task : ℕ) (calls : List SliceletCall) (kept : TaskHandles) : Type 0 where
  pub process : kept.process ≡ processes calls
  pub each : (i : ℕ) (given : GivenHandle) → slice_get kept.handles.items i ≡ Some given → IsBreakOf task calls given

-- a handle that was given, without when it breaks
abbrev pub named : GivenHandle → GivenHandle
named given = record given { breaks = 0 }
