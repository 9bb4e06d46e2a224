-- Rows of a table as JSON.
use Rattle.std.specs.Prelude.{[], ◌∷◌, codes, Result, Ok}
use Rattle.serde_json.specs.Data.{Data}
use Rattle.grants.specs.declared.values.Row.{Row}
use Rattle.program_io.specs.declared.fault.WrongForm.{WrongForm}
use Rattle.program_io.specs.Reading.{◌>>=◌, ◌>>◌}
use Rattle.program_io.specs.Members.{exactly}
use Rattle.wire.specs.declared.numerals.Numerals.{Numerals}
use Rattle.wire.specs.LeaseMembers.{kind_at, kind_data, life_at, task_at}
use Rattle.wire.specs.Numerals.{numeral_at, numeral_data}
use Rattle.wire.specs.Objects.{number_data, object_data}

-- `{"generation":G,"kind":KIND,"life":L,"number":N,"task":T,"until":U}`
abbrev pub row_data : Numerals → Row → Data
row_data numerals row = object_data
    ((codes "generation", numeral_data numerals row.generation) ∷
    (codes "kind", kind_data row.kind) ∷
    (codes "life", number_data row.life) ∷
    (codes "number", numeral_data numerals row.number) ∷
    (codes "task", number_data row.task) ∷
    (codes "until", numeral_data numerals row.table_ends) ∷ [])

-- a row has the number, the task, the life and the kind of a grant, its generation and its end
unfoldable pub row_of : Numerals → Data → Result Row WrongForm
row_of numerals d = do
  exactly (codes "generation" ∷ codes "kind" ∷ codes "life" ∷ codes "number" ∷ codes "task" ∷ codes "until" ∷ []) d
  number ← numeral_at numerals (codes "number") d
  task ← task_at (codes "task") d
  life ← life_at (codes "life") d
  kind ← kind_at (codes "kind") d
  generation ← numeral_at numerals (codes "generation") d
  until ← numeral_at numerals (codes "until") d
  Ok (record { number = number; task = task; life = life; kind = kind; generation = generation; table_ends = until })
