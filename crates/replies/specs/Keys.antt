-- What a member says as a key.
use Rattle.std.specs.Prelude.{ℕ, List, length, Result, Ok, nat_le}
use Rattle.serde_json.specs.Data.{Data}
use Rattle.program_io.specs.declared.fault.WrongForm.{WrongForm}
use Rattle.program_io.specs.Reading.{◌>>=◌, ◌>>◌, check}
use Rattle.program_io.specs.Members.{wrong, text_at}

-- the member of this name, as the bytes of a text of at most 4096 bytes
abbrev pub key_at : List ℕ → Data → Result (List ℕ) WrongForm
key_at name d = do
  text ← text_at name d
  check (nat_le (length text) 4096) wrong
  Ok text
