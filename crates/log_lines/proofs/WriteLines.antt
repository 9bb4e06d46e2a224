-- A line of a write that is written has no fractions, few levels and no member twice, and is read as the write.
use Rattle.std.proofs.Common.{◌≡◌, ℕ, ◌<◌, ◌≤◌, true, false, List, None, Some, Option, Result, Ok, Err, IfOk, IfErr, refl, sym, subst, inl, inr, arith}
use Rattle.std.proofs.lemmas.Bool.{lt-ltb}
use Rattle.std.specs.Prelude.{IsUtf8}
use Rattle.hex.specs.Hex.{encode_lower}
use Rattle.serde_json.specs.Data.{Data, depth}
use Rattle.serde_json.specs.Read.{max_depth, read}
use Rattle.serde_json.specs.Written.{IsInOrder, compact_text, has_float, outline}
use Rattle.slice_ranges.specs.declared.key.TheConstants.{KEYS}
use Rattle.fence.specs.declared.token.Token.{Token}
use Rattle.fence.specs.Tokens.{bytes_of}
use Rattle.program_io.specs.Repeated.{first_repeated}
use Rattle.program_io.proofs.Once.{written_once}
use Rattle.log_line.specs.declared.write.LoggedWrite.{LoggedWrite}
use Rattle.log_line.specs.declared.write.StoreReply.{StoreReply}
use Rattle.log_line.specs.declared.write.StoreReply.TheVariants.{Taken, Refused, Unknown}
use Rattle.log_line.specs.Extensions.{without_extensions}
use Rattle.log_line.specs.Lines.{SaysWrite}
use Rattle.log_line.specs.Writes.{is_write, numbered_write, plain_write, token_of_text, write_of}
use Rattle.c_calls.specs.declared.answer.Answer.{Answer}
use Rattle.c_calls.specs.Outputs.{IsListGiven, IsOutOfMemory, Output}
use Rattle.log_lines.specs.Writes.{IsWriteLine, IsWriteLineGiven, IsWriteReadBack, data_with, write_data, write_text}

-- a write of which the store said this
abbrev with_reply : ℕ → ℕ → Token → StoreReply → LoggedWrite
with_reply ticket key token reply = record { ticket = ticket; key = key; token = token; reply = reply }

module _ (ticket key : ℕ) (token : Token) (low : key < KEYS) (back : token_of_text (encode_lower (bytes_of token)) ≡ Ok token) where
  read_with : (reply : StoreReply) → write_of (without_extensions (data_with (with_reply ticket key token reply) reply)) ≡ Ok (with_reply ticket key token reply)
  unfolding numbered_write plain_write
  read_with (Taken (Some revision)) = rw (lt-ltb key KEYS low, back) refl
  read_with (Taken None) = rw (lt-ltb key KEYS low, back) refl
  read_with Refused = rw (lt-ltb key KEYS low, back) refl
  read_with Unknown = rw (lt-ltb key KEYS low, back) refl

named_with : (write : LoggedWrite) (reply : StoreReply) → is_write (without_extensions (data_with write reply)) ≡ true
named_with write (Taken (Some revision)) = refl
named_with write (Taken None) = refl
named_with write Refused = refl
named_with write Unknown = refl

pub read_back : (write : LoggedWrite) → write.key < KEYS → token_of_text (encode_lower (bytes_of write.token)) ≡ Ok write.token → IsWriteReadBack write
read_back write low back = record { named = named_with write write.reply; says = read_with write.ticket write.key write.token low back write.reply }

whole_with : (write : LoggedWrite) (reply : StoreReply) → has_float (data_with write reply) ≡ false
whole_with write (Taken (Some revision)) = refl
whole_with write (Taken None) = refl
whole_with write Refused = refl
whole_with write Unknown = refl

shallow_with : (write : LoggedWrite) (reply : StoreReply) → depth (data_with write reply) ≤ 4
shallow_with write (Taken (Some revision)) = omega arith
shallow_with write (Taken None) = omega arith
shallow_with write Refused = omega arith
shallow_with write Unknown = omega arith

once_with : (write : LoggedWrite) (reply : StoreReply) → first_repeated (outline (data_with write reply)) ≡ None
once_with write (Taken (Some revision)) = refl
once_with write (Taken None) = refl
once_with write Refused = refl
once_with write Unknown = refl

-- bytes that are written of a write say the write
pub says_write : (write : LoggedWrite) (d : Data) (bytes : List ℕ) → IsWriteReadBack write → d ≡ write_data write
    → IsUtf8 bytes → (depth d ≤ max_depth → read bytes ≡ Some d) → IsInOrder bytes d → SaysWrite bytes write
says_write write d bytes back is utf8 reads order =
    let shallow : depth d ≤ max_depth = rw is (omega (arith, shallow_with write write.reply)) in
    let once : first_repeated (outline d) ≡ None = rw (is, once_with write write.reply) refl in
    record {
      value = d;
      json = record { json = record { utf8 = utf8; reads = reads shallow }; once = written_once bytes d order once };
      named = rw is back.named;
      says = rw is back.says;
    }

-- what was written of it is its text
pub as_write_text : {X E : Type 0} (r : Result X E) (items : X → List ℕ) (write : LoggedWrite) (d : Data) → d ≡ write_data write
    → IfOk r (λ x. has_float d ≡ false → items x ≡ compact_text d) → IfOk r (λ x. items x ≡ write_text write)
as_write_text (Ok x) items write d is text = rw (← is) (text (rw is (whole_with write write.reply)))
as_write_text (Err e) items write d is text = tt

-- a line that was made is given, if there is room for it
pub write_given : {X E : Type 0} (made : Result X E) (items : X → List ℕ) (found : Option LoggedWrite) (write : LoggedWrite) (was now : Output ℕ) (answer : Answer)
    → found ≡ Some write → IfOk made (λ x. IsWriteLine write (items x)) → IfOk made (λ x. IsListGiven (items x) was.buffer now.buffer now.needed answer)
    → IfErr made (λ _. IsOutOfMemory was now answer) → IsWriteLineGiven found was now answer
write_given (Ok x) items found write was now answer e line given memory =
    subst (λ w. IsWriteLineGiven w was now answer) (sym e) (inl (record { list = items x; is = line; given = given }))
write_given (Err why) items found write was now answer e line given memory = subst (λ w. IsWriteLineGiven w was now answer) (sym e) (inr memory)
