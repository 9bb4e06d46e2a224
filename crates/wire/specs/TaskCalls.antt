-- Calls of a slicelet as JSON.
use Rattle.std.specs.Prelude.{List, [], ◌∷◌, ◌++◌, codes, Result, Ok, ℕ}
use Rattle.serde_json.specs.Data.{Data, string}
use Rattle.grants.specs.declared.slicelet_call.SliceletCall.{SliceletCall}
use Rattle.grants.specs.declared.slicelet_call.SliceletCall.TheVariants.{Start, Hear, Release, Resume}
use Rattle.program_io.specs.Reading.{◌>>=◌, ◌>>◌}
use Rattle.program_io.specs.Members.{exactly, member_at, text_at}
use Rattle.wire.specs.declared.fault.DecodeRefusal.{DecodeRefusal}
use Rattle.wire.specs.declared.numerals.Numerals.{Numerals}
use Rattle.wire.specs.Grants.{grant_data, grant_of}
use Rattle.wire.specs.LeaseMembers.{kind_at, kind_data, life_at}
use Rattle.wire.specs.Numerals.{numeral_at, numeral_data}
use Rattle.wire.specs.Objects.{number_data, object_data}
use Rattle.wire.specs.Refusals.{or_wrong}
use Rattle.wire.specs.Named.{read_named}

-- a call is written as the step of a script, with a grant in place of its number
abbrev pub task_call_data : Numerals → SliceletCall → Data
task_call_data numerals (Start life at) = object_data
    ((codes "at", numeral_data numerals at) ∷ (codes "do", string (codes "start")) ∷ (codes "life", number_data life) ∷ [])
task_call_data numerals (Hear grant at) = object_data
    ((codes "at", numeral_data numerals at) ∷ (codes "do", string (codes "hear")) ∷ (codes "grant", grant_data numerals grant) ∷ [])
task_call_data numerals (Release kind at) = object_data
    ((codes "at", numeral_data numerals at) ∷ (codes "do", string (codes "release")) ∷ (codes "kind", kind_data kind) ∷ [])
task_call_data numerals (Resume life) = object_data ((codes "do", string (codes "resume")) ∷ (codes "life", number_data life) ∷ [])

-- a `start` has a life and a reading
unfoldable pub start_of : List (List ℕ) → Numerals → Data → Result SliceletCall DecodeRefusal
start_of beside numerals d = do
  or_wrong (exactly (beside ++ codes "do" ∷ codes "life" ∷ codes "at" ∷ []) d)
  life ← or_wrong (life_at (codes "life") d)
  at ← or_wrong (numeral_at numerals (codes "at") d)
  Ok (Start life at)

-- a `hear` has a grant and a reading
unfoldable pub hear_of : List (List ℕ) → Numerals → Data → Result SliceletCall DecodeRefusal
hear_of beside numerals d = do
  or_wrong (exactly (beside ++ codes "do" ∷ codes "grant" ∷ codes "at" ∷ []) d)
  at ← or_wrong (numeral_at numerals (codes "at") d)
  grant ← or_wrong (member_at (codes "grant") d) >>= grant_of numerals
  Ok (Hear grant at)

-- a `release` has a kind of lease and a reading
unfoldable pub release_of : List (List ℕ) → Numerals → Data → Result SliceletCall DecodeRefusal
release_of beside numerals d = do
  or_wrong (exactly (beside ++ codes "do" ∷ codes "kind" ∷ codes "at" ∷ []) d)
  kind ← or_wrong (kind_at (codes "kind") d)
  at ← or_wrong (numeral_at numerals (codes "at") d)
  Ok (Release kind at)

-- a `resume` has a life
unfoldable pub resume_of : List (List ℕ) → Data → Result SliceletCall DecodeRefusal
resume_of beside d = do
  or_wrong (exactly (beside ++ codes "do" ∷ codes "life" ∷ []) d)
  life ← or_wrong (life_at (codes "life") d)
  Ok (Resume life)

-- the calls of a slicelet, each by its name and its reader
abbrev pub task_call_kinds : List (List ℕ) → Numerals → List (List ℕ × (Data → Result SliceletCall DecodeRefusal))
task_call_kinds beside numerals =
    (codes "start", start_of beside numerals) ∷
    (codes "hear", hear_of beside numerals) ∷
    (codes "release", release_of beside numerals) ∷
    (codes "resume", resume_of beside) ∷ []

-- a call, named by its member `do`
unfoldable pub task_call_of : Numerals → Data → Result SliceletCall DecodeRefusal
task_call_of numerals d = do
  name ← or_wrong (text_at (codes "do") d)
  read_named (task_call_kinds [] numerals) name d
