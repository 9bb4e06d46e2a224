-- Bytes as the text of a JSON value.
use Rattle.std.specs.Prelude.{◌≡◌, ℕ, List, Some, None, ⊤, IsUtf8, string_bytes}
use Rattle.serde_json.specs.Data.{Data}
use Rattle.serde_json.specs.Read.{read}
use Rattle.program_io.specs.declared.fault.Unread.{Unread}
use Rattle.program_io.specs.declared.fault.Unread.TheVariants as unread
use Rattle.program_io.specs.declared.fault.JsonError.{JsonError}
use Rattle.program_io.specs.declared.fault.JsonError.TheVariants as error
use Rattle.program_io.specs.Repeated.{repeated_name}

-- the bytes are a text of this JSON value
pub record IsJson (bytes : List ℕ) (value : Data) : Type 0 where
  pub utf8 : IsUtf8 bytes
  pub reads : read bytes ≡ Some value

-- the bytes are the text of no JSON value
abbrev pub IsNoJson : List ℕ → Type 0
IsNoJson bytes = IsUtf8 bytes → read bytes ≡ None

-- no value was read: the bytes are the text of none, or memory ran out
abbrev pub IsUnreadJson : List ℕ → Unread → Type 0
IsUnreadJson bytes unread.WrongForm = IsNoJson bytes
IsUnreadJson bytes unread.Memory = ⊤

-- the bytes are a text of this JSON value, and no object in it has a member twice
pub record IsStrictJson (bytes : List ℕ) (value : Data) : Type 0 where
  pub json : IsJson bytes value
  pub once : repeated_name bytes ≡ None

-- the bytes are a text of a JSON value, and an object in it has this member twice
pub record Repeats (bytes name : List ℕ) : Type 0 where
  pub value : Data
  pub json : IsJson bytes value
  pub twice : repeated_name bytes ≡ Some name

-- an object in the JSON text has a member twice
abbrev pub HasRepeatedMember : List ℕ → Type 0
HasRepeatedMember bytes = (name : List ℕ) × Repeats bytes name

-- the bytes are the text of no JSON value, or repeat a member, or memory ran out
abbrev pub IsNotStrict : List ℕ → JsonError → Type 0
IsNotStrict bytes (error.NotJson why) = IsNoJson bytes
IsNotStrict bytes (error.Repeated name) = Repeats bytes (string_bytes name)
IsNotStrict bytes error.Memory = ⊤
