-- What each call answers, and what it leaves.
use Rattle.std.specs.Prelude.{ℕ, ◌+◌, ◌==◌, true, not, nat_lt, nat_le, List, [], ◌∷◌, Option, Some, None, is_none, Result}
use Rattle.machines.specs.Refusals.{when, answer}
use Rattle.lease_rule.specs.declared.lease.Kind.{Kind}
use Rattle.lease_rule.specs.declared.lease.Kind.TheVariants.{Guard, Bridge}
use Rattle.grants.specs.declared.values.Grant.{Grant}
use Rattle.grants.specs.declared.values.ReleaseNote.{ReleaseNote}
use Rattle.key_handle.specs.Stamps.{stamp_after_change}
use Rattle.grants.specs.declared.slicelet_error.SliceletError.{SliceletError}
use Rattle.grants.specs.declared.slicelet_error.SliceletError.TheVariants.{NotStarted, OldLife, ClockBack, OtherTask, OtherLife, Old, TooLate, NothingHeld, HistoryFull}
use Rattle.machines.specs.Answers.{with_named_reply}
use Rattle.machines.specs.declared.event.Event.{Event}
use Rattle.grants.specs.declared.slicelet_call.SliceletReply.{SliceletReply}
use Rattle.grants.specs.declared.slicelet_call.SliceletReply.TheVariants.{Started, Heard, Released, Resumed}
use Rattle.grants.specs.declared.slicelet_call.EndedNotes.{EndedNotes}
use Rattle.grants.specs.declared.slicelet_call.SliceletCall.{SliceletCall}
use Rattle.grants.specs.SliceletCalls.{ended_notes}
use Rattle.grants.specs.declared.slicelet_call.SliceletCall.TheVariants.{Start, Hear, Release, Resume}
use Rattle.slicelet.specs.declared.slicelet.TheConstants.{CALLS}
use Rattle.slicelet.specs.Stamping.{stamps_where}
use Rattle.slicelet.specs.States.{SliceletState, held_in, greatest_in, stamp_in, permits}
pub use Rattle.slicelet.specs.States.{opening, resumed}

-- REFUSALS, IN THEIR ORDER

abbrev pub not_started : SliceletState → Option SliceletError
not_started s = when (not s.up) NotStarted

abbrev pub clock_back : SliceletState → ℕ → Option SliceletError
clock_back s at = when (nat_lt at s.last) ClockBack

-- a number is not above the greatest heard
abbrev pub old_number : ℕ → Option ℕ → Option SliceletError
old_number number None = None
old_number number (Some greatest) = when (nat_le number greatest) (Old greatest)

abbrev pub history_full : SliceletState → Option SliceletError
history_full s = when (nat_le CALLS s.count) HistoryFull

abbrev pub start_checks : SliceletState → ℕ → ℕ → List (Option SliceletError)
start_checks s life at = when (nat_le life s.life) OldLife ∷ clock_back s at ∷ history_full s ∷ []

abbrev pub hear_checks : SliceletState → Grant → ℕ → List (Option SliceletError)
hear_checks s grant at =
    not_started s ∷ clock_back s at ∷
    when (not (grant.task == s.task)) OtherTask ∷
    when (not (grant.life == s.life)) OtherLife ∷
    old_number grant.number (greatest_in s grant.lease.kind) ∷
    when (nat_le grant.lease.ends at) TooLate ∷ history_full s ∷ []

abbrev pub release_checks : SliceletState → Kind → ℕ → List (Option SliceletError)
release_checks s kind at = not_started s ∷ clock_back s at ∷ when (is_none (held_in s kind)) NothingHeld ∷ history_full s ∷ []

abbrev pub resume_checks : SliceletState → ℕ → List (Option SliceletError)
resume_checks s life = when (nat_lt life s.life) OldLife ∷ []

-- WHAT A CALL LEAVES

-- a state with another grant, or none, in the place of that of a kind
abbrev pub with_grant : Kind → Option Grant → SliceletState → SliceletState
with_grant Guard grant s = record s { guard = grant }
with_grant Bridge grant s = record s { bridge = grant }

-- a state with another greatest number of a kind
abbrev pub with_greatest : Kind → ℕ → SliceletState → SliceletState
with_greatest Guard number s = record s { guard_number = Some number }
with_greatest Bridge number s = record s { bridge_number = Some number }

-- the life, the leases and the numbers that a call leaves
abbrev pub moved_by : SliceletState → SliceletCall → SliceletState
moved_by s (Start life at) = record s { life = life; up = true; guard = None; bridge = None; guard_number = None; bridge_number = None }
moved_by s (Hear grant at) = with_greatest grant.lease.kind grant.number (with_grant grant.lease.kind (Some grant) s)
moved_by s (Release kind at) = with_grant kind None s
moved_by s (Resume life) = resumed s.task life

-- the state as it was read at a call
abbrev pub read_at : ℕ → SliceletState → SliceletState
read_at at s = record s { last = at }

-- a call that found one state and left another one is counted, and stamps each key with the count, unless it keeps its stamp
abbrev pub state_with_count : SliceletState → SliceletState → ℕ → SliceletState
state_with_count before after at = record after {
  count = before.count + 1;
  stamps = stamps_where (λ key. stamp_after_change (stamp_in before key) (permits before key at) (permits after key at) (before.count + 1));
}

-- the state after an accepted call; with a new process the count begins again
abbrev pub next_state : SliceletState → SliceletCall → SliceletState
next_state s (Start life at) = state_with_count s (read_at at (moved_by s (Start life at))) at
next_state s (Hear grant at) = state_with_count s (read_at at (moved_by s (Hear grant at))) at
next_state s (Release kind at) = state_with_count s (read_at at (moved_by s (Release kind at))) at
next_state s (Resume life) = resumed s.task life

-- STEPS

abbrev pub start_step : SliceletState → ℕ → ℕ → Result (SliceletState × Unit {0}) SliceletError
start_step s life at = answer (start_checks s life at) (next_state s (Start life at), tt)

abbrev pub hear_step : SliceletState → Grant → ℕ → Result (SliceletState × Unit {0}) SliceletError
hear_step s grant at = answer (hear_checks s grant at) (next_state s (Hear grant at), tt)

-- the note of a released lease: its number
abbrev pub number_of : Option Grant → ℕ
number_of None = 0
number_of (Some grant) = grant.number

abbrev pub note_of : SliceletState → Kind → ReleaseNote
note_of s kind = record { task = s.task; life = s.life; kind = kind; number = number_of (held_in s kind) }

abbrev pub release_step : SliceletState → Kind → ℕ → Result (SliceletState × ReleaseNote) SliceletError
release_step s kind at = answer (release_checks s kind at) (next_state s (Release kind at), note_of s kind)

abbrev pub resume_step : SliceletState → ℕ → Result (SliceletState × EndedNotes) SliceletError
resume_step s life = answer (resume_checks s life) (next_state s (Resume life), ended_notes s.task life)

-- an event is its call, whatever its ticket
abbrev pub slicelet_step : SliceletState → SliceletCall → Result (SliceletState × SliceletReply) SliceletError
slicelet_step s (Start life at) = with_named_reply (λ _. Started) (start_step s life at)
slicelet_step s (Hear grant at) = with_named_reply (λ _. Heard) (hear_step s grant at)
slicelet_step s (Release kind at) = with_named_reply Released (release_step s kind at)
slicelet_step s (Resume life) = with_named_reply Resumed (resume_step s life)

abbrev pub event_step : SliceletState → Event SliceletCall → Result (SliceletState × SliceletReply) SliceletError
event_step s event = slicelet_step s event.call
