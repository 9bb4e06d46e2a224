-- Lines of writes to stores: a write with its token, and what the store said.
use Rattle.std.specs.Prelude.{ℕ, ◌==◌, Bool, false, List, [], ◌∷◌, length, take, drop, codes, is_some, Some, None, Result, Ok, Err, if◌then◌else◌}
use Rattle.std.specs.Int.{w32, w64, from_be_bytes}
use Rattle.std.specs.Str.{bytes_eq}
use Rattle.hex.specs.Hex.{decode_sized}
use Rattle.hex.specs.declared.error.FromHexError.{FromHexError}
use Rattle.serde_json.specs.Data.{Data}
use Rattle.serde_json.specs.Find.{get}
use Rattle.fence.specs.declared.token.Token.{Token}
use Rattle.program_io.specs.Reading.{◌>>=◌, ◌>>◌, check}
use Rattle.program_io.specs.Members.{wrong, exactly, number_at, text_at}
use Rattle.program_io.specs.declared.fault.WrongForm.{WrongForm}
use Rattle.wire.specs.declared.numerals.Numerals.TheVariants.{Either}
use Rattle.wire.specs.Numerals.{numeral_at}
use Rattle.log_line.specs.Keys.{key_name, slice_key_in}
use Rattle.log_line.specs.declared.write.LoggedWrite.{LoggedWrite}
use Rattle.log_line.specs.declared.write.StoreReply.{StoreReply}
use Rattle.log_line.specs.declared.write.StoreReply.TheVariants.{Taken, Refused, Unknown}

-- THE TOKEN

-- so many bytes, each as two hexadecimal digits
abbrev pub bytes_or_wrong : Result (List ℕ) FromHexError → Result (List ℕ) WrongForm
bytes_or_wrong (Ok bytes) = Ok bytes
bytes_or_wrong (Err e) = Err wrong

abbrev pub bytes_in : ℕ → List ℕ → Result (List ℕ) WrongForm
bytes_in count digits = bytes_or_wrong (decode_sized digits count)

-- the token whose 16 bytes are these 32 hexadecimal digits: the epoch, the generation and then the life, each with the high byte first
unfoldable pub token_of_text : List ℕ → Result Token WrongForm
token_of_text text = do
  check (length text == 32) wrong
  epoch ← bytes_in 4 (take 8 text)
  generation ← bytes_in 8 (take 16 (drop 8 text))
  life ← bytes_in 4 (drop 24 text)
  Ok (record { epoch = from_be_bytes w32 epoch; generation = from_be_bytes w64 generation; life = from_be_bytes w32 life })

abbrev pub token_at : List ℕ → Data → Result Token WrongForm
token_at name d = text_at name d >>= token_of_text

-- THE LINE

-- the store gave the write a revision
abbrev pub has_revision : Data → Bool
has_revision d = is_some (get (codes "revision") d)

-- what a store said that gave no revision
abbrev pub plain_reply : List ℕ → Result StoreReply WrongForm
plain_reply words =
    if bytes_eq words (codes "taken") then Ok (Taken None)
    else if bytes_eq words (codes "refused") then Ok Refused
    else if bytes_eq words (codes "unknown") then Ok Unknown
    else Err wrong

-- what a store said that gave this revision: only a write that it took has one
abbrev pub numbered_reply : List ℕ → ℕ → Result StoreReply WrongForm
numbered_reply words revision = if bytes_eq words (codes "taken") then Ok (Taken (Some revision)) else Err wrong

-- what the store said, with the members that are not read here
abbrev pub write_with : StoreReply → Data → Result LoggedWrite WrongForm
write_with reply d = do
  ticket ← number_at (codes "ticket") d
  key ← slice_key_in d
  token ← token_at (codes "token") d
  Ok (record { ticket = ticket; key = key; token = token; reply = reply })

unfoldable pub plain_write : Data → Result LoggedWrite WrongForm
plain_write d = do
  exactly (codes "ticket" ∷ codes "reply" ∷ codes "do" ∷ key_name d ∷ codes "token" ∷ []) d
  words ← text_at (codes "reply") d
  reply ← plain_reply words
  write_with reply d

unfoldable pub numbered_write : Data → Result LoggedWrite WrongForm
numbered_write d = do
  exactly (codes "ticket" ∷ codes "reply" ∷ codes "do" ∷ key_name d ∷ codes "token" ∷ codes "revision" ∷ []) d
  words ← text_at (codes "reply") d
  revision ← numeral_at Either (codes "revision") d
  reply ← numbered_reply words revision
  write_with reply d

-- a `write` has a key, a token, and a revision if the store gave it one
abbrev pub write_of : Data → Result LoggedWrite WrongForm
write_of d = if has_revision d then numbered_write d else plain_write d

-- the member `do` of a line says that it is of a write
abbrev pub names_write : Result (List ℕ) WrongForm → Bool
names_write (Ok name) = bytes_eq name (codes "write")
names_write (Err e) = false

abbrev pub is_write : Data → Bool
is_write d = names_write (text_at (codes "do") d)
