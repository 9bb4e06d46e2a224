-- Handles: was a key held without a break since then?
use Rattle.std.specs.Prelude.{◌≡◌, ℕ, ◌≤◌, ◌==◌, Bool, true, false, not, ◌&&◌, ◌||◌, nat_lt, nat_le, IsTrue, List, [], ◌∷◌, ◌++◌, length, Result, Ok, Err, if◌then◌else◌}
use Rattle.lease_rule.specs.declared.answer.Ground.{Ground}
use Rattle.lease_rule.specs.declared.answer.Verdict.{Verdict}
use Rattle.lease_rule.specs.declared.answer.Verdict.TheVariants.{Allow, Deny}
use Rattle.grants.specs.declared.values.Grant.{Grant}
use Rattle.key_handle.specs.declared.handle.KeyHandle.{KeyHandle}
use Rattle.key_handle.specs.Handles.{is_up_to}
use Rattle.grants.specs.declared.slicelet_error.Stranger.{Stranger}
use Rattle.grants.specs.declared.slicelet_call.SliceletCall.{SliceletCall}
use Rattle.slicelet.specs.Calls.{reading_of, life_of, this_process}
use Rattle.slicelet.specs.Rules.{is_permitted, covers_key}
use Rattle.slicelet.specs.States.{SliceletState, state_after, stamp_in, permits}

-- the handle that a task takes on a key: its position is the number of calls of this process so far
abbrev pub handle_on : ℕ → SliceletState → KeyHandle
handle_on key s = record { task = s.task; life = s.life; key = key; position = s.count }

-- a handle where the rule allows the key, else the reason
abbrev pub held_by : Verdict → KeyHandle → Result KeyHandle Ground
held_by (Allow kind generation) handle = Ok handle
held_by (Deny why) handle = Err why

-- a handle that the slicelet cannot have given: of another task, of an earlier process, of a life to come, or of the current life after
-- more calls than there were
abbrev pub is_strange : SliceletState → KeyHandle → Bool
is_strange s handle = not (handle.task == s.task) || nat_le handle.life s.resumed || nat_lt s.life handle.life || (handle.life == s.life && nat_lt s.count handle.position)

-- a handle is of the current life, its key has a stamp that is not above its position, and the key is permitted at the reading
abbrev pub is_kept : SliceletState → KeyHandle → ℕ → Bool
is_kept s handle at = (handle.life == s.life && is_up_to handle.position (stamp_in s handle.key)) && permits s handle.key at

-- what a check answers, by what the slicelet knows
abbrev pub checked_in : SliceletState → KeyHandle → ℕ → Result Bool Stranger
checked_in s handle at = if is_strange s handle then Err (record {}) else Ok (is_kept s handle at)

-- each call after the first ones finds the key permitted at its reading, both just before it and just after it
abbrev pub IsKeptSince : ℕ → (Grant → Bool) → List SliceletCall → Type 0
IsKeptSince position covers h = (later before : List SliceletCall) (c : SliceletCall) → h ≡ later ++ c ∷ before → position ≤ length before
    → IsTrue (is_permitted covers before (reading_of c)) × IsTrue (is_permitted covers (c ∷ before) (reading_of c))

-- a handle is continuous at a reading: it is of the current life, no call of this process since took its key away, and the key is permitted
-- at the reading
pub record IsContinuous (covers : Grant → Bool) (h : List SliceletCall) (handle : KeyHandle) (at : ℕ) : Type 0 where
  pub life : handle.life ≡ life_of h
  pub kept : IsKeptSince handle.position covers (this_process h)
  pub now : IsTrue (is_permitted covers h at)

-- what a check answers, by the calls
abbrev pub IsChecked : ℕ → List SliceletCall → KeyHandle → ℕ → Result Bool Stranger → Type 0
IsChecked task h handle at (Ok true) = (is_strange (state_after task h) handle ≡ false) × IsContinuous (covers_key handle.key) h handle at
IsChecked task h handle at (Ok false) = (is_strange (state_after task h) handle ≡ false) × (IsContinuous (covers_key handle.key) h handle at → ⊥)
IsChecked task h handle at (Err stranger) = is_strange (state_after task h) handle ≡ true

-- the reading of the first of some later calls, or else that of the check
abbrev pub next_reading : List SliceletCall → ℕ → ℕ
next_reading [] at = at
next_reading (c ∷ later) at = next_reading later (reading_of c)
