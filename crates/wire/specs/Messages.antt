-- Messages: a value of a type as bytes, of a job.
use Rattle.std.specs.Prelude.{◌≡◌, ◌⊎◌, ◌==◌, ◌<◌, ◌≤◌, ℕ, List, [], ◌∷◌, length, codes, true, false, None, Result, Ok, Err, if◌then◌else◌}
use Rattle.std.specs.Str.{bytes_eq}
use Rattle.serde_json.specs.Data.{Data, string, depth}
use Rattle.serde_json.specs.Written.{compact_text, has_float, outline}
use Rattle.program_io.specs.Json.{HasRepeatedMember, IsNoJson, IsStrictJson}
use Rattle.program_io.specs.Reading.{◌>>=◌, ◌>>◌, check}
use Rattle.program_io.specs.Repeated.{first_repeated}
use Rattle.program_io.specs.Members.{exactly, member_at, number_at, text_at}
use Rattle.wire.specs.declared.fault.DecodeError.{DecodeError}
use Rattle.wire.specs.declared.fault.DecodeError.TheVariants as failed
use Rattle.wire.specs.declared.fault.DecodeRefusal.{DecodeRefusal}
use Rattle.wire.specs.declared.fault.DecodeRefusal.TheVariants.{TooLong, NotJson, RepeatedMember, Version, OtherType, OtherJob}
use Rattle.wire.specs.declared.message.TheConstants.{FIRST_VERSION, MOST_BYTES, VERSION}
use Rattle.wire.specs.declared.numerals.Numerals.{Numerals}
use Rattle.wire.specs.declared.numerals.Numerals.TheVariants.{Bare, Quoted}
use Rattle.wire.specs.Objects.{number_data, object_data}
use Rattle.wire.specs.Refusals.{or_wrong}

-- `{"job":JOB,"type":NAME,"value":VALUE,"version":2}`
abbrev pub message_data : List ℕ → List ℕ → Data → Data
message_data job name value = object_data
    ((codes "job", string job) ∷
    (codes "type", string name) ∷
    (codes "value", value) ∷
    (codes "version", number_data VERSION) ∷ [])

-- the bytes of a value that is written so, in a message of this job and of the type of this name
abbrev pub message_text : List ℕ → List ℕ → Data → List ℕ
message_text job name value = compact_text (message_data job name value)

-- what a message holds: the name of its job, how its numbers are written, and its value
pub record Content : Type 0 where
  pub job : List ℕ
  pub numerals : Numerals
  pub value : Data

abbrev pub content : List ℕ → Numerals → Data → Content
content job numerals value = record { job = job; numerals = numerals; value = value }

-- the value in a message of the type of this name
abbrev pub value_in : List ℕ → Data → Result Data DecodeRefusal
value_in name d = do
  type ← or_wrong (text_at (codes "type") d)
  check (bytes_eq type name) OtherType
  or_wrong (member_at (codes "value") d)

-- a message of the first version names no job, so it is one of the job with the empty name
unfoldable pub first_content : List ℕ → Data → Result Content DecodeRefusal
first_content name d = do
  or_wrong (exactly (codes "type" ∷ codes "value" ∷ codes "version" ∷ []) d)
  value ← value_in name d
  Ok (content [] Bare value)

-- a message of this version names its job
unfoldable pub named_content : List ℕ → Data → Result Content DecodeRefusal
named_content name d = do
  or_wrong (exactly (codes "job" ∷ codes "type" ∷ codes "value" ∷ codes "version" ∷ []) d)
  job ← or_wrong (text_at (codes "job") d)
  value ← value_in name d
  Ok (content job Quoted value)

-- what a message of the type of this name holds: the version is looked at before any other member
unfoldable pub content_of : List ℕ → Data → Result Content DecodeRefusal
content_of name d = do
  version ← or_wrong (number_at (codes "version") d)
  if version == VERSION then named_content name d else (if version == FIRST_VERSION then first_content name d else Err (Version version))

-- the value of a message, as values of its type are read, if the message is of this job
abbrev pub value_for : {A : Type 0} → List ℕ → (Numerals → Data → Result A DecodeRefusal) → Content → Result A DecodeRefusal
value_for job form c = do
  check (bytes_eq c.job job) OtherJob
  form c.numerals c.value

-- the value that a message of this job says
abbrev pub message_of : {A : Type 0} → List ℕ → List ℕ → (Numerals → Data → Result A DecodeRefusal) → Data → Result A DecodeRefusal
message_of job name form d = content_of name d >>= value_for job form

-- the message holds a value, and is of this job
pub record IsOurs (job name : List ℕ) (d : Data) : Type 0 where
  pub content : Content
  pub holds : content_of name d ≡ Ok content
  pub ours : bytes_eq content.job job ≡ true

-- there are not too many bytes to read
abbrev pub IsShort : List ℕ → Type 0
IsShort bytes = length bytes ≤ MOST_BYTES

-- the bytes are a message of this job and this value, in which no object has a member twice
pub record IsMessage {A : Type 0} (job name : List ℕ) (form : Numerals → Data → Result A DecodeRefusal) (bytes : List ℕ) (x : A) : Type 0 where
  pub value : Data
  pub json : IsStrictJson bytes value
  pub says : message_of job name form value ≡ Ok x

-- the bytes are a text of a JSON value that is no such message, for this reason, and has no member twice
pub record IsOtherJson {A : Type 0} (job name : List ℕ) (form : Numerals → Data → Result A DecodeRefusal) (bytes : List ℕ) (why : DecodeRefusal) : Type 0 where
  pub value : Data
  pub json : IsStrictJson bytes value
  pub says : message_of job name form value ≡ Err why

-- the bytes are no such message, for this reason
abbrev pub IsNoMessage : {A : Type 0} → List ℕ → List ℕ → (Numerals → Data → Result A DecodeRefusal) → List ℕ → DecodeRefusal → Type 0
IsNoMessage job name form bytes why =
    ((why ≡ NotJson) × IsNoJson bytes) ⊎ ((why ≡ RepeatedMember) × HasRepeatedMember bytes) ⊎ IsOtherJson job name form bytes why

-- the bytes are not read as such a message, for this reason: their number is looked at first
abbrev pub IsRefusedFor : {A : Type 0} → List ℕ → List ℕ → (Numerals → Data → Result A DecodeRefusal) → List ℕ → DecodeRefusal → Type 0
IsRefusedFor job name form bytes why = ((why ≡ TooLong) × (MOST_BYTES < length bytes)) ⊎ (IsShort bytes × IsNoMessage job name form bytes why)

-- nothing was decoded: the bytes are refused, or memory ran out, which takes bytes that are not too many
abbrev pub IsUndecoded : {A : Type 0} → List ℕ → List ℕ → (Numerals → Data → Result A DecodeRefusal) → List ℕ → DecodeError → Type 0
IsUndecoded job name form bytes (failed.Refused why) = IsRefusedFor job name form bytes why
IsUndecoded job name form bytes failed.NoMemory = IsShort bytes

-- there are too many bytes, or there are not, and memory ran out
abbrev pub IsUnread : List ℕ → DecodeError → Type 0
IsUnread bytes e = ((e ≡ failed.Refused TooLong) × (MOST_BYTES < length bytes)) ⊎ ((e ≡ failed.NoMemory) × IsShort bytes)

-- the bytes of this value were decoded, unless they were not read
abbrev pub IsDecodedAs : {A : Type 0} → List ℕ → A → Result A DecodeError → Type 0
IsDecodedAs bytes x (Ok y) = y ≡ x
IsDecodedAs bytes x (Err e) = IsUnread bytes e

-- the bytes were refused as a message of another job, unless they were not read
abbrev pub IsOfOtherJob : {A : Type 0} → List ℕ → Result A DecodeError → Type 0
IsOfOtherJob bytes (Ok y) = ⊥
IsOfOtherJob bytes (Err e) = (e ≡ failed.Refused OtherJob) ⊎ IsUnread bytes e

-- how a value is written in a message: it is read as the same value, and has no fractions, few levels and no member twice
pub record IsWritten {A : Type 0} (data_of : Numerals → A → Data) (form : Numerals → Data → Result A DecodeRefusal) (x : A) (d : Data) : Type 0 where
  pub is : d ≡ data_of Quoted x
  pub reads : form Quoted d ≡ Ok x
  pub whole : has_float d ≡ false
  pub shallow : depth d ≤ 8
  pub once : first_repeated (outline d) ≡ None
