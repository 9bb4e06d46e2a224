-- Lines that are written as text, with no value of their JSON.
use Rattle.std.specs.Prelude.{◌≡◌, ℕ, ◌==◌, ◌&&◌, nat_le, not, List, ◌++◌, Bool, Some, IsUtf8, codes, decimal}
use Rattle.serde_json.specs.Data.{Data}
use Rattle.serde_json.specs.Read.{read}
use Rattle.serde_json.specs.Written.{IsInOrder, compact_text}

-- the byte stands in a JSON string as it is: it is no control character, quotation mark or backslash
abbrev pub is_plain : ℕ → Bool
is_plain byte = nat_le 32 byte && (not (byte == 34) && not (byte == 92))

-- the members that end the line of a call of a task
abbrev pub line_end : ℕ → ℕ → List ℕ
line_end ticket task = codes ",\"task\":" ++ (decimal task ++ (codes ",\"ticket\":" ++ (decimal ticket ++ codes "}")))

-- the bytes are the compact text of a value, and are read as the value
pub record IsCompactJson (bytes : List ℕ) (d : Data) : Type 0 where
  pub text : bytes ≡ compact_text d
  pub utf8 : IsUtf8 bytes
  pub reads : read bytes ≡ Some d
  pub order : IsInOrder bytes d
