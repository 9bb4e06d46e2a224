-- Release notes as JSON.
use Rattle.std.specs.Prelude.{[], ◌∷◌, codes, Result, Ok}
use Rattle.serde_json.specs.Data.{Data}
use Rattle.grants.specs.declared.values.ReleaseNote.{ReleaseNote}
use Rattle.program_io.specs.declared.fault.WrongForm.{WrongForm}
use Rattle.program_io.specs.Reading.{◌>>=◌, ◌>>◌}
use Rattle.program_io.specs.Members.{exactly}
use Rattle.wire.specs.declared.numerals.Numerals.{Numerals}
use Rattle.wire.specs.LeaseMembers.{kind_at, kind_data, life_at, task_at}
use Rattle.wire.specs.Numerals.{numeral_at, numeral_data}
use Rattle.wire.specs.Objects.{number_data, object_data}

-- `{"kind":KIND,"life":L,"number":N,"task":T}`
abbrev pub note_data : Numerals → ReleaseNote → Data
note_data numerals note = object_data
    ((codes "kind", kind_data note.kind) ∷
    (codes "life", number_data note.life) ∷
    (codes "number", numeral_data numerals note.number) ∷
    (codes "task", number_data note.task) ∷ [])

-- a note has a kind, a life, a number and a task
unfoldable pub note_of : Numerals → Data → Result ReleaseNote WrongForm
note_of numerals d = do
  exactly (codes "kind" ∷ codes "life" ∷ codes "number" ∷ codes "task" ∷ []) d
  task ← task_at (codes "task") d
  life ← life_at (codes "life") d
  kind ← kind_at (codes "kind") d
  number ← numeral_at numerals (codes "number") d
  Ok (record { task = task; life = life; kind = kind; number = number })
