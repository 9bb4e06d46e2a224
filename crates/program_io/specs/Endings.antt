-- How a program ends: what it read and wrote, and the status that it exits with.
use Rattle.std.specs.Prelude.{◌≡◌, ℕ, List, take, Option}
use Rattle.std.specs.Io.KnownBytes.{Appends, Keeps}
use Rattle.program_io.specs.declared.fault.Fault.{Fault}
use Rattle.program_io.specs.declared.fault.Fault.TheVariants as fault
use Rattle.program_io.specs.Status.{status_of}
use Rattle.program_io.specs.Streams.{HasRead}

-- WHAT WAS WRITTEN

-- one of these texts was written
pub record IsWritten (Is : List ℕ → Type 0) (held holds : Option (List ℕ)) : Type 0 where
  pub text : List ℕ
  pub is : Is text
  pub wrote : Appends held holds text

-- one of these texts was written up to a place
pub record IsCut (Is : List ℕ → Type 0) (held holds : Option (List ℕ)) : Type 0 where
  pub text : List ℕ
  pub is : Is text
  pub len : ℕ
  pub wrote : Appends held holds (take len text)

-- what was written where the input was not answered: nothing where it is refused; what was begun where it was not read to its end or memory ran out; and
-- one of these texts up to a place where the writer failed
abbrev pub IsFailed : {Refusal : Type 0} → (Refusal → Type 0) → Type 0 → (List ℕ → Type 0) → (held holds : Option (List ℕ)) → Fault Refusal → Type 0
IsFailed IsRefused IsBegun Is held holds (fault.Input why) = IsRefused why × Keeps held holds
IsFailed IsRefused IsBegun Is held holds fault.Read = IsBegun
IsFailed IsRefused IsBegun Is held holds fault.Write = IsCut Is held holds
IsFailed IsRefused IsBegun Is held holds fault.Memory = IsBegun

-- A PROGRAM THAT READS ALL OF ITS INPUT BEFORE IT WRITES

-- all was read, and a text that answers it was written
abbrev pub IsAnswered : (Answers : List ℕ → List ℕ → Type 0) → (before after held holds : Option (List ℕ)) → Type 0
IsAnswered Answers before after held holds = IsWritten (λ text. HasRead (λ bytes. Answers bytes text) before after) held holds

-- no whole answer was written; nothing at all, but for a first part of an answer where the writer failed
abbrev pub IsUnanswered : {Refusal : Type 0} → (Answers : List ℕ → List ℕ → Type 0) → (Refuses : List ℕ → Refusal → Type 0) → (before after held holds : Option (List ℕ)) → Fault Refusal → Type 0
IsUnanswered Answers Refuses before after held holds why =
    IsFailed (λ refusal. HasRead (λ bytes. Refuses bytes refusal) before after) (Keeps held holds) (λ text. HasRead (λ bytes. Answers bytes text) before after) held holds why

-- WITH WHICH STATUS

-- the input was answered, with a value by which the program exits
pub record EndsWell {Value : Type 0} (status_for : Value → ℕ) (IsAnsweredWith : Value → Type 0) (code : ℕ) : Type 0 where
  pub value : Value
  pub status : code ≡ status_for value
  pub answered : IsAnsweredWith value

-- it was not
pub record EndsAtFault {Refusal : Type 0} (IsUnansweredFor : Fault Refusal → Type 0) (code : ℕ) : Type 0 where
  pub why : Fault Refusal
  pub status : code ≡ status_of why
  pub failed : IsUnansweredFor why

-- there were arguments: nothing was read, and nothing written
pub record EndsAtArguments (before after held holds : Option (List ℕ)) (code : ℕ) : Type 0 where
  pub status : code ≡ 2
  pub kept : Keeps before after × Keeps held holds
