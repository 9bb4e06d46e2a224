-- What a line of a log says: a call at its ticket, with the words that its caller was told, or a write to a store.
use Rattle.std.specs.Prelude.{◌≡◌, ◌⊎◌, ℕ, true, List, ◌++◌, codes, ⊤, Result, Ok, Err, if◌then◌else◌}
use Rattle.serde_json.specs.Data.{Data}
use Rattle.program_io.specs.Json.{HasRepeatedMember, IsNoJson, IsStrictJson}
use Rattle.program_io.specs.Reading.{◌>>=◌}
use Rattle.program_io.specs.Members.{number_at, text_at}
use Rattle.wire.specs.declared.fault.DecodeRefusal.{DecodeRefusal}
use Rattle.wire.specs.declared.fault.DecodeRefusal.TheVariants.{NotJson, RepeatedMember}
use Rattle.wire.specs.Refusals.{or_wrong}
use Rattle.wire.specs.Named.{read_named}
use Rattle.log_line.specs.declared.reading.NoLine.{NoLine}
use Rattle.log_line.specs.declared.reading.NoLine.TheVariants as none
use Rattle.log_line.specs.declared.reading.SaidLine.{SaidLine}
use Rattle.log_line.specs.declared.reading.SaidLine.TheVariants.{Call, Write}
use Rattle.log_line.specs.declared.line.LoggedCall.{LoggedCall}
use Rattle.log_line.specs.declared.line.LoggedLine.{LoggedLine}
use Rattle.log_line.specs.declared.write.LoggedWrite.{LoggedWrite}
use Rattle.log_line.specs.Extensions.{without_extensions}
use Rattle.log_line.specs.MessageCalls.{table_kinds, task_kinds, clerk_kinds}
use Rattle.log_line.specs.OwnCalls.{own_kinds}
use Rattle.log_line.specs.Writes.{is_write, write_of}

-- a call, named by its member `do`
unfoldable pub call_in : Data → Result LoggedCall DecodeRefusal
call_in d = do
  name ← or_wrong (text_at (codes "do") d)
  read_named (own_kinds ++ table_kinds ++ task_kinds ++ clerk_kinds) name d

-- a ticket, the words of a reply, and a call
unfoldable pub line_of : Data → Result LoggedLine DecodeRefusal
line_of d = do
  ticket ← or_wrong (number_at (codes "ticket") d)
  reply ← or_wrong (text_at (codes "reply") d)
  call ← call_in d
  Ok (record { ticket = ticket; call = call; reply = reply })

-- a write, where the line says so, and else a call
abbrev pub write_said : Data → Result SaidLine DecodeRefusal
write_said d = do
  write ← or_wrong (write_of d)
  Ok (Write write)

abbrev pub call_said : Data → Result SaidLine DecodeRefusal
call_said d = do
  line ← line_of d
  Ok (Call line)

abbrev pub said_of : Data → Result SaidLine DecodeRefusal
said_of d = if is_write d then write_said d else call_said d

-- the bytes are a text of this line, whose extensions are passed over
pub record SaysLine (bytes : List ℕ) (line : LoggedLine) : Type 0 where
  pub value : Data
  pub json : IsStrictJson bytes value
  pub says : line_of (without_extensions value) ≡ Ok line

-- the bytes are a text of this write
pub record SaysWrite (bytes : List ℕ) (write : LoggedWrite) : Type 0 where
  pub value : Data
  pub json : IsStrictJson bytes value
  pub named : is_write (without_extensions value) ≡ true
  pub says : write_of (without_extensions value) ≡ Ok write

abbrev pub Says : List ℕ → SaidLine → Type 0
Says bytes (Call line) = SaysLine bytes line
Says bytes (Write write) = SaysWrite bytes write

-- the bytes are a text of a JSON value that is no line, for this reason
pub record HasNoLine (bytes : List ℕ) (why : DecodeRefusal) : Type 0 where
  pub value : Data
  pub json : IsStrictJson bytes value
  pub says : said_of (without_extensions value) ≡ Err why

-- the bytes are no line, for this reason
abbrev pub SaysNoLine : List ℕ → DecodeRefusal → Type 0
SaysNoLine bytes why = ((why ≡ NotJson) × IsNoJson bytes) ⊎ ((why ≡ RepeatedMember) × HasRepeatedMember bytes) ⊎ HasNoLine bytes why

-- the bytes are no line, or memory ran out
abbrev pub IsNoLine : List ℕ → NoLine → Type 0
IsNoLine bytes (none.Refused why mend) = SaysNoLine bytes why
IsNoLine bytes none.Memory = ⊤
