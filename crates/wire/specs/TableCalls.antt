-- Calls of the table as JSON.
use Rattle.std.specs.Prelude.{List, [], ◌∷◌, ◌++◌, codes, Result, Ok, ℕ}
use Rattle.serde_json.specs.Data.{Data}
use Rattle.grants.specs.declared.table_call.TableCall.{TableCall}
use Rattle.grants.specs.declared.table_call.TableCall.TheVariants.{JobTake, JobRenew, Propose, Commit, Grant, Free, Restart}
use Rattle.program_io.specs.Reading.{◌>>=◌, ◌>>◌}
use Rattle.program_io.specs.Members.{exactly, member_at}
use Rattle.wire.specs.declared.fault.DecodeRefusal.{DecodeRefusal}
use Rattle.wire.specs.declared.numerals.Numerals.{Numerals}
use Rattle.wire.specs.Assignments.{slicing_in}
use Rattle.wire.specs.LeaseMembers.{life_at, task_at}
use Rattle.wire.specs.Notes.{note_of}
use Rattle.wire.specs.Numerals.{numeral_at}
use Rattle.wire.specs.Refusals.{or_wrong}

-- a `take` has an assigner and a reading
unfoldable pub take_of : List (List ℕ) → Numerals → Data → Result TableCall DecodeRefusal
take_of beside numerals d = do
  or_wrong (exactly (beside ++ codes "do" ∷ codes "assigner" ∷ codes "at" ∷ []) d)
  assigner ← or_wrong (numeral_at numerals (codes "assigner") d)
  at ← or_wrong (numeral_at numerals (codes "at") d)
  Ok (JobTake assigner at)

-- a `renew` has a term and a reading
unfoldable pub renew_of : List (List ℕ) → Numerals → Data → Result TableCall DecodeRefusal
renew_of beside numerals d = do
  or_wrong (exactly (beside ++ codes "do" ∷ codes "term" ∷ codes "at" ∷ []) d)
  term ← or_wrong (numeral_at numerals (codes "term") d)
  at ← or_wrong (numeral_at numerals (codes "at") d)
  Ok (JobRenew term at)

-- a `propose` has a term, an assignment and a reading
unfoldable pub propose_of : List (List ℕ) → Numerals → Data → Result TableCall DecodeRefusal
propose_of beside numerals d = do
  or_wrong (exactly (beside ++ codes "do" ∷ codes "term" ∷ codes "generation" ∷ codes "slices" ∷ codes "at" ∷ []) d)
  term ← or_wrong (numeral_at numerals (codes "term") d)
  at ← or_wrong (numeral_at numerals (codes "at") d)
  slicing ← slicing_in numerals d
  Ok (Propose term slicing at)

-- a `commit` has a term and a reading
unfoldable pub commit_of : List (List ℕ) → Numerals → Data → Result TableCall DecodeRefusal
commit_of beside numerals d = do
  or_wrong (exactly (beside ++ codes "do" ∷ codes "term" ∷ codes "at" ∷ []) d)
  term ← or_wrong (numeral_at numerals (codes "term") d)
  at ← or_wrong (numeral_at numerals (codes "at") d)
  Ok (Commit term at)

-- a `grant` has a task, a life of it and a reading
unfoldable pub grant_call_of : List (List ℕ) → Numerals → Data → Result TableCall DecodeRefusal
grant_call_of beside numerals d = do
  or_wrong (exactly (beside ++ codes "do" ∷ codes "task" ∷ codes "life" ∷ codes "at" ∷ []) d)
  task ← or_wrong (task_at (codes "task") d)
  life ← or_wrong (life_at (codes "life") d)
  at ← or_wrong (numeral_at numerals (codes "at") d)
  Ok (Grant task life at)

-- a `free` has a note and a reading
unfoldable pub free_of : List (List ℕ) → Numerals → Data → Result TableCall DecodeRefusal
free_of beside numerals d = do
  or_wrong (exactly (beside ++ codes "do" ∷ codes "note" ∷ codes "at" ∷ []) d)
  note ← or_wrong (member_at (codes "note") d >>= note_of numerals)
  at ← or_wrong (numeral_at numerals (codes "at") d)
  Ok (Free note at)

-- a `lose` has nothing more
unfoldable pub lose_of : List (List ℕ) → Data → Result TableCall DecodeRefusal
lose_of beside d = do
  or_wrong (exactly (beside ++ codes "do" ∷ []) d)
  Ok Restart

-- the calls of the table, each by its name and its reader
abbrev pub call_kinds : List (List ℕ) → Numerals → List (List ℕ × (Data → Result TableCall DecodeRefusal))
call_kinds beside numerals =
    (codes "take", take_of beside numerals) ∷
    (codes "renew", renew_of beside numerals) ∷
    (codes "propose", propose_of beside numerals) ∷
    (codes "commit", commit_of beside numerals) ∷
    (codes "grant", grant_call_of beside numerals) ∷
    (codes "free", free_of beside numerals) ∷
    (codes "lose", lose_of beside) ∷ []
