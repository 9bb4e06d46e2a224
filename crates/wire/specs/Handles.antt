-- Handles on keys as JSON.
use Rattle.std.specs.Prelude.{ℕ, List, [], ◌∷◌, codes, nat_lt, Result, Ok}
use Rattle.serde_json.specs.Data.{Data}
use Rattle.slice_ranges.specs.declared.key.TheConstants.{KEYS}
use Rattle.key_handle.specs.declared.handle.KeyHandle.{KeyHandle}
use Rattle.program_io.specs.declared.fault.WrongForm.{WrongForm}
use Rattle.program_io.specs.Reading.{◌>>=◌, ◌>>◌, check}
use Rattle.program_io.specs.Members.{wrong, exactly}
use Rattle.wire.specs.declared.numerals.Numerals.{Numerals}
use Rattle.wire.specs.LeaseMembers.{life_at, task_at}
use Rattle.wire.specs.Numerals.{numeral_at, numeral_data}
use Rattle.wire.specs.Objects.{number_data, object_data}

-- the member of this name, as a slice key
abbrev pub slice_key_at : Numerals → List ℕ → Data → Result ℕ WrongForm
slice_key_at numerals name d = do
  n ← numeral_at numerals name d
  check (nat_lt n KEYS) wrong
  Ok n

-- `{"life":L,"position":P,"slice_key":K,"task":T}`
abbrev pub handle_data : Numerals → KeyHandle → Data
handle_data numerals handle = object_data
    ((codes "life", number_data handle.life) ∷
    (codes "position", numeral_data numerals handle.position) ∷
    (codes "slice_key", numeral_data numerals handle.key) ∷
    (codes "task", number_data handle.task) ∷ [])

-- a handle has a life, a position, a slice key and a task
unfoldable pub handle_of : Numerals → Data → Result KeyHandle WrongForm
handle_of numerals d = do
  exactly (codes "life" ∷ codes "position" ∷ codes "slice_key" ∷ codes "task" ∷ []) d
  task ← task_at (codes "task") d
  life ← life_at (codes "life") d
  key ← slice_key_at numerals (codes "slice_key") d
  position ← numeral_at numerals (codes "position") d
  Ok (record { task = task; life = life; key = key; position = position })
