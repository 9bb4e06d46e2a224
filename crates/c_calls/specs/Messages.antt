-- Values by their messages.
use Rattle.std.specs.Prelude.{◌≡◌, ℕ, List, codes, Result}
use Rattle.assignment.specs.Slices.{Slicing}
use Rattle.grants.specs.declared.kept.Kept.{Kept}
use Rattle.grants.specs.declared.values.Grant.{Grant}
use Rattle.grants.specs.declared.values.ReleaseNote.{ReleaseNote}
use Rattle.serde_json.specs.Data.{Data}
use Rattle.wire.specs.declared.fault.DecodeRefusal.{DecodeRefusal}
use Rattle.wire.specs.declared.numerals.Numerals.{Numerals}
use Rattle.wire.specs.declared.numerals.Numerals.TheVariants.{Quoted}
use Rattle.wire.specs.Assignments.{assignment_data, assignment_of}
use Rattle.wire.specs.Grants.{grant_data, grant_of}
use Rattle.wire.specs.Kept.{kept_data, kept_of}
use Rattle.wire.specs.Messages.{IsMessage, message_text}
use Rattle.wire.specs.Notes.{note_data, note_of}
use Rattle.wire.specs.Refusals.{or_wrong}

-- the bytes are the message of a value, of a job, and are read as it
pub record IsTextOf {A : Type 0} (job name : List ℕ) (data_of : Numerals → A → Data) (form : Numerals → Data → Result A DecodeRefusal) (value : A) (text : List ℕ) : Type 0 where
  pub is : text ≡ message_text job name (data_of Quoted value)
  pub reads : IsMessage job name form text value

abbrev pub IsGrantText : List ℕ → Grant → List ℕ → Type 0
IsGrantText job grant text = IsTextOf job (codes "grant") grant_data grant_of grant text

abbrev pub IsAssignmentText : List ℕ → Slicing → List ℕ → Type 0
IsAssignmentText job slicing text = IsTextOf job (codes "assignment") assignment_data assignment_of slicing text

abbrev pub IsKeptText : List ℕ → Kept → List ℕ → Type 0
IsKeptText job kept text = IsTextOf job (codes "kept") kept_data kept_of kept text

abbrev pub IsNoteText : List ℕ → ReleaseNote → List ℕ → Type 0
IsNoteText job note text = IsTextOf job (codes "note") note_data (λ numerals d. or_wrong (note_of numerals d)) note text
