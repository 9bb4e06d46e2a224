-- What a call does with bytes.
use Rattle.std.specs.Prelude.{◌≡◌, ◌≢◌, ℕ, List, Result, Ok, Err}
use Rattle.serde_json.specs.Data.{Data}
use Rattle.wire.specs.declared.fault.DecodeError.{DecodeError}
use Rattle.wire.specs.declared.fault.DecodeError.TheVariants as failed
use Rattle.wire.specs.declared.fault.DecodeRefusal.{DecodeRefusal}
use Rattle.wire.specs.declared.numerals.Numerals.{Numerals}
use Rattle.wire.specs.Messages.{IsDecodedAs, IsMessage, IsOfOtherJob, IsShort, IsUndecoded}
use Rattle.c_calls.specs.declared.answer.Answer.{Answer}
use Rattle.c_calls.specs.declared.answer.Answer.TheVariants.{Unread, NoMemory}

-- what is answered where nothing was decoded
abbrev pub unread_answer : DecodeError → Answer
unread_answer (failed.Refused why) = Unread why
unread_answer failed.NoMemory = NoMemory

-- the bytes are a message of the job of this value that is not too long, or they are refused for this reason, or memory ran out
abbrev pub IsDecoded : {A : Type 0} → List ℕ → List ℕ → (Numerals → Data → Result A DecodeRefusal) → List ℕ → Result A DecodeError → Type 0
IsDecoded job name form bytes (Ok value) = IsShort bytes × IsMessage job name form bytes value
IsDecoded job name form bytes (Err why) = IsUndecoded job name form bytes why

-- what was read of the bytes, which are a message of the job of no other value, and of no other job, and what the call did with it
pub record IsReadFrom {A : Type 0} (job name : List ℕ) (form : Numerals → Data → Result A DecodeRefusal) (bytes : List ℕ) (does : Result A DecodeError → Type 0) : Type 0 where
  pub read : Result A DecodeError
  pub decoded : IsDecoded job name form bytes read
  pub only : (value : A) → IsMessage job name form bytes value → IsDecodedAs bytes value read
  pub other : (other : List ℕ) (value : A) → other ≢ job → IsMessage other name form bytes value → IsOfOtherJob bytes read
  pub done : does read

-- what a call does with the value that was read; if none was, nothing is changed
abbrev pub OnRead : {A : Type 0} → Type 0 → Answer → (A → Type 0) → Result A DecodeError → Type 0
OnRead same answer does (Ok value) = does value
OnRead same answer does (Err why) = (answer ≡ unread_answer why) × same
