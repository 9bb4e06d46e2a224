-- The key that a line names.
use Rattle.std.specs.Prelude.{ℕ, Bool, List, codes, is_some, Result, Ok, if◌then◌else◌}
use Rattle.serde_json.specs.Data.{Data}
use Rattle.serde_json.specs.Find.{get}
use Rattle.slice_ranges.specs.Hash.{slice_key}
use Rattle.program_io.specs.declared.fault.WrongForm.{WrongForm}
use Rattle.program_io.specs.Reading.{◌>>=◌}
use Rattle.replies.specs.Keys.{key_at}
use Rattle.wire.specs.declared.numerals.Numerals.TheVariants.{Either}
use Rattle.wire.specs.Handles.{slice_key_at}

-- the line names a slice key in place of a key
abbrev pub has_slice_key : Data → Bool
has_slice_key d = is_some (get (codes "slice_key") d)

-- the member that names the key
abbrev pub key_name : Data → List ℕ
key_name d = if has_slice_key d then codes "slice_key" else codes "key"

-- the slice key of the member `key`, which is read as in a script
abbrev pub hashed_key : Data → Result ℕ WrongForm
hashed_key d = do
  key ← key_at (codes "key") d
  Ok (slice_key key)

-- the slice key that a line names: its member `slice_key`, or that of its member `key`
abbrev pub slice_key_in : Data → Result ℕ WrongForm
slice_key_in d = if has_slice_key d then slice_key_at Either (codes "slice_key") d else hashed_key d
