-- The line of a log that is written of a write to a store.
use Rattle.std.specs.Prelude.{◌≡◌, ℕ, ◌==◌, true, List, [], ◌∷◌, ◌++◌, codes, Option, Some, None, option_and_then, option_map, Ok, if◌then◌else◌}
use Rattle.hex.specs.Hex.{encode_lower}
use Rattle.serde_json.specs.Data.{Data, string}
use Rattle.serde_json.specs.Written.{compact_text}
use Rattle.fence.specs.declared.token.Token.{Token}
use Rattle.fence.specs.Tokens.{Fits, bytes_of}
use Rattle.wire.specs.Objects.{number_data, object_data}
use Rattle.log_line.specs.declared.write.LoggedWrite.{LoggedWrite}
use Rattle.log_line.specs.declared.write.StoreReply.{StoreReply}
use Rattle.log_line.specs.declared.write.StoreReply.TheVariants.{Taken, Refused, Unknown}
use Rattle.log_line.specs.Extensions.{without_extensions}
use Rattle.log_line.specs.Lines.{SaysWrite}
use Rattle.log_line.specs.Writes.{is_write, write_of}
use Rattle.c_calls.specs.declared.answer.Answer.{Answer}
use Rattle.c_calls.specs.Arguments.{InForm, slice_key_of}
use Rattle.c_calls.specs.Outputs.{IsOneGivenUnlessMemory, Output}
use Rattle.log_lines.specs.declared.write_numbers.WriteNumbers.{WriteNumbers}

-- what the store said, by its number: it took the write and gave it this revision, it took the write, it refused it, or no answer came
abbrev pub store_reply_of : ℕ → ℕ → Option StoreReply
store_reply_of number revision =
    if number == 1 then Some (Taken (Some revision))
    else if number == 2 then Some (Taken None)
    else if number == 3 then Some Refused
    else if number == 4 then Some Unknown
    else None

abbrev pub logged_write : WriteNumbers → Token → ℕ → StoreReply → LoggedWrite
logged_write n token key reply = record { ticket = n.ticket; key = key; token = token; reply = reply }

-- the write that the numbers say, with the token whose bytes they have
abbrev pub write_in : WriteNumbers → Token → Option LoggedWrite
write_in n token = option_and_then (λ key. option_map (logged_write n token key) (store_reply_of n.reply n.revision)) (slice_key_of n.slice_key)

-- the text of a token: its bytes in hexadecimal digits
abbrev pub token_text : Token → List ℕ
token_text token = encode_lower (bytes_of token)

-- a write without a revision
abbrev pub plain_data : LoggedWrite → List ℕ → Data
plain_data write words = object_data
    ((codes "do", string (codes "write")) ∷ (codes "reply", string words) ∷ (codes "slice_key", number_data write.key)
    ∷ (codes "ticket", number_data write.ticket) ∷ (codes "token", string (token_text write.token)) ∷ [])

abbrev pub numbered_data : LoggedWrite → ℕ → Data
numbered_data write revision = object_data
    ((codes "do", string (codes "write")) ∷ (codes "reply", string (codes "taken")) ∷ (codes "revision", number_data revision)
    ∷ (codes "slice_key", number_data write.key) ∷ (codes "ticket", number_data write.ticket) ∷ (codes "token", string (token_text write.token)) ∷ [])

abbrev pub data_with : LoggedWrite → StoreReply → Data
data_with write (Taken (Some revision)) = numbered_data write revision
data_with write (Taken None) = plain_data write (codes "taken")
data_with write Refused = plain_data write (codes "refused")
data_with write Unknown = plain_data write (codes "unknown")

abbrev pub write_data : LoggedWrite → Data
write_data write = data_with write write.reply

-- what is written of it is read as it
pub record IsWriteReadBack (write : LoggedWrite) : Type 0 where
  pub named : is_write (without_extensions (write_data write)) ≡ true
  pub says : write_of (without_extensions (write_data write)) ≡ Ok write

-- the bytes of its line, without the end
abbrev pub write_text : LoggedWrite → List ℕ
write_text write = compact_text (write_data write)

-- THE LINE: it is ended by a line feed, and an audit reads it as this write
pub record IsWriteLine (write : LoggedWrite) (text : List ℕ) : Type 0 where
  pub is : text ≡ write_text write ++ codes "\n"
  pub says : SaysWrite (write_text write) write

-- the line of the write that the numbers say is given; if they say none, nothing is written
abbrev pub IsWriteLineGiven : Option LoggedWrite → Output ℕ → Output ℕ → Answer → Type 0
IsWriteLineGiven found was now answer = InForm found (now ≡ was) answer (λ write. IsOneGivenUnlessMemory (IsWriteLine write) was now answer)

-- where the bytes are those of a token
abbrev pub IsWriteLineOf : WriteNumbers → Output ℕ → Output ℕ → Answer → Type 0
IsWriteLineOf n was now answer = (token : Token) → Fits token → n.token.bytes ≡ bytes_of token → IsWriteLineGiven (write_in n token) was now answer
