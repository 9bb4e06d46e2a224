-- Lists of accepted calls, newest first, the states after them, and the notes that they sent.
use Rattle.std.specs.Prelude.{◌≡◌, ℕ, List, [], ◌∷◌, Option, None, ⊤}
use Rattle.machines.specs.Refusals.{first_of}
use Rattle.grants.specs.declared.values.ReleaseNote.{ReleaseNote}
use Rattle.grants.specs.declared.slicelet_error.SliceletError.{SliceletError}
use Rattle.grants.specs.declared.slicelet_call.SliceletReply.{SliceletReply}
use Rattle.grants.specs.declared.slicelet_call.SliceletReply.TheVariants.{Started, Heard, Released, Resumed}
use Rattle.grants.specs.declared.slicelet_call.SliceletCall.{SliceletCall}
use Rattle.grants.specs.declared.slicelet_call.SliceletCall.TheVariants.{Start, Hear, Release, Resume}
use Rattle.slicelet.specs.States.{SliceletState, state_after}
use Rattle.lease_rule.specs.declared.lease.Kind.TheVariants.{Guard, Bridge}
use Rattle.slicelet.specs.Steps.{start_checks, hear_checks, release_checks, resume_checks, note_of}
use Rattle.grants.specs.SliceletCalls.{ended_note}

-- the refusals of a call
abbrev pub checks_of : SliceletState → SliceletCall → List (Option SliceletError)
checks_of s (Start life at) = start_checks s life at
checks_of s (Hear grant at) = hear_checks s grant at
checks_of s (Release kind at) = release_checks s kind at
checks_of s (Resume life) = resume_checks s life

-- each call was accepted after those before it
abbrev pub AreAccepted : ℕ → List SliceletCall → Type 0
AreAccepted task [] = ⊤
AreAccepted task (c ∷ h) = (first_of (checks_of (state_after task h) c) ≡ None) × AreAccepted task h

-- a state is the one after these calls, each of which was accepted after those before it
pub record StandsAfter (h : List SliceletCall) (s : SliceletState) : Type 0 where
  pub state : s ≡ state_after s.task h
  pub accepted : AreAccepted s.task h

-- the notes of a reply, the last one first: that of a release, and those of a life that ended with its process
abbrev pub notes_of : SliceletReply → List ReleaseNote
notes_of Started = []
notes_of Heard = []
notes_of (Released note) = note ∷ []
notes_of (Resumed ended) = ended.bridge ∷ ended.guard ∷ []

-- the notes that were answered, the last one first
abbrev pub notes_after : SliceletState → SliceletCall → List ReleaseNote → List ReleaseNote
notes_after s (Start life at) notes = notes
notes_after s (Hear grant at) notes = notes
notes_after s (Release kind at) notes = note_of s kind ∷ notes
notes_after s (Resume life) notes = ended_note s.task life Bridge ∷ ended_note s.task life Guard ∷ notes

abbrev pub notes_sent : ℕ → List SliceletCall → List ReleaseNote
notes_sent task [] = []
notes_sent task (c ∷ h) = notes_after (state_after task h) c (notes_sent task h)
