-- What calls of a slicelet read, and the notes of a life that ended.
use Rattle.std.specs.Prelude.{ℕ, Option, Some, None}
use Rattle.lease_rule.specs.declared.lease.Kind.{Kind}
use Rattle.lease_rule.specs.declared.lease.Kind.TheVariants.{Guard, Bridge}
use Rattle.grants.specs.declared.policy.TheConstants.{MOST_GRANTS}
use Rattle.grants.specs.declared.slicelet_call.EndedNotes.{EndedNotes}
use Rattle.grants.specs.declared.slicelet_call.SliceletCall.{SliceletCall}
use Rattle.grants.specs.declared.slicelet_call.SliceletCall.TheVariants.{Start, Hear, Release, Resume}
use Rattle.grants.specs.declared.values.ReleaseNote.{ReleaseNote}

-- the reading of a call, if it reads the clock
abbrev pub clock_reading : SliceletCall → Option ℕ
clock_reading (Start life at) = Some at
clock_reading (Hear grant at) = Some at
clock_reading (Release kind at) = Some at
clock_reading (Resume life) = None

-- the notes of a life that ended with its process: the greatest number that a grant can have closes every row
abbrev pub ended_note : ℕ → ℕ → Kind → ReleaseNote
ended_note task life kind = record { task = task; life = life; kind = kind; number = MOST_GRANTS }

abbrev pub ended_notes : ℕ → ℕ → EndedNotes
ended_notes task life = record { guard = ended_note task life Guard; bridge = ended_note task life Bridge }
