-- What broke a handle.
use Rattle.std.specs.Prelude.{◌≡◌, ◌≢◌, ℕ, ◌+◌, ◌<◌, ◌&&◌, true, false, List, ◌∷◌, ◌++◌, length, Ok}
use Rattle.lease_rule.specs.declared.answer.Verdict.TheVariants.{Deny}
use Rattle.grants.specs.declared.slicelet_call.SliceletCall.{SliceletCall}
use Rattle.key_handle.specs.declared.handle.KeyHandle.{KeyHandle}
use Rattle.lease_table.specs.Tables.{Standing}
use Rattle.slicelet.specs.Calls.{reading_of}
use Rattle.slicelet.specs.Continuity.{checked_in, IsKeptSince}
use Rattle.slicelet.specs.Rules.{covers_key, is_permitted}
use Rattle.slicelet.specs.States.{SliceletState, permits}
use Rattle.reasons.specs.declared.places.TaskPlaces.{TaskPlaces}
use Rattle.reasons.specs.declared.reason.Break.{Break}
use Rattle.reasons.specs.declared.reason.Break.TheVariants as break
use Rattle.reasons.specs.Placed.{place_of_call}
use Rattle.reasons.specs.Values.{rule_by, IsOfRequest}

-- the handle, as if it was given after so many calls
abbrev pub taken_after : ℕ → KeyHandle → KeyHandle
taken_after position handle = record { task = handle.task; life = handle.life; key = handle.key; position = position }

-- the call of this number took the key of a handle away, and none after it did: a handle given just before it is broken, and one given just after
-- it is continuous
pub record IsBreakingCall (s : SliceletState) (handle : KeyHandle) (at call : ℕ) : Type 0 where
  pub since : handle.position < call
  pub before : ℕ
  pub just_before : before + 1 ≡ call
  pub broken_before : checked_in s (taken_after before handle) at ≡ Ok false
  pub continuous_after : checked_in s (taken_after call handle) at ≡ Ok true

-- no call took the key of a handle away
abbrev pub HasNoBreakingCall : SliceletState → KeyHandle → ℕ → Type 0
HasNoBreakingCall s handle at = (call : ℕ) → IsBreakingCall s handle at call → ⊥

-- none of what breaks a handle is so: it is of the task's life, the rule allows its key at the reading, and no call took the key away
pub record HasNoCause (s : SliceletState) (handle : KeyHandle) (at : ℕ) : Type 0 where
  pub of_life : handle.life ≡ s.life
  pub allowed : permits s handle.key at ≡ true
  pub kept : HasNoBreakingCall s handle at

-- why a task finds a handle broken at a reading: it is in another life than the handle; the rule over the values denies the key; or a call took it away
abbrev pub IsBreak : Standing → SliceletState → TaskPlaces → KeyHandle → ℕ → Break → Type 0
IsBreak t s places handle at (break.OtherLife life) = (life ≡ s.life) × (handle.life ≢ life)
IsBreak t s places handle at (break.Denied denial request) =
    IsOfRequest t s places.heard handle.key at request × (rule_by request.rule at ≡ Deny denial)
IsBreak t s places handle at (break.Taken call last) = IsBreakingCall s handle at call × (last ≡ place_of_call call s.count places.calls)

-- of the calls of a process, the last one just before or just after which the written rule denied a key at the reading of that call, by its number
pub record IsLastDenied (calls : List SliceletCall) (key call : ℕ) : Type 0 where
  pub later : List SliceletCall
  pub made : SliceletCall
  pub before : List SliceletCall
  pub parts : calls ≡ later ++ made ∷ before
  pub number : length before + 1 ≡ call
  pub denied : is_permitted (covers_key key) before (reading_of made) && is_permitted (covers_key key) (made ∷ before) (reading_of made) ≡ false
  pub last : IsKeptSince call (covers_key key) calls
