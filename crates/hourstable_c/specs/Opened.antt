-- How a place is made, what is put into it, and what is taken out of it.
use Rattle.std.specs.Prelude.{◌≡◌, ◌⊎◌, ℕ, ℤ, Bool, true, false, List, Option, Some, None, Result, Ok, Err}
use Rattle.lease_table.specs.Tables.{Standing}
use Rattle.c_calls.specs.declared.answer.Answer.{Answer}
use Rattle.c_calls.specs.declared.answer.Answer.TheVariants.{Done, NoMemory, OtherPlace, WrongForm}
use Rattle.c_calls.specs.declared.details.AnswerDetails.{AnswerDetails}
use Rattle.c_calls.specs.AnswerNumbers.{answer_number}
use Rattle.c_calls.specs.Details.{answer_details}
use Rattle.hourstable_c.specs.declared.held.Held.{Held}
use Rattle.hourstable_c.specs.declared.held.Held.TheVariants.{Nothing, Table}
use Rattle.c_calls.specs.declared.policy_numbers.PolicyNumbers.{PolicyNumbers}
use Rattle.c_calls.specs.tables.Keeping.{IsRestored}

-- an empty place is there; or there was none and memory ran out, and there is none
abbrev pub IsMade : Option Held → Option Held → ℤ → Type 0
IsMade was now number = ((number ≡ answer_number Done) × (now ≡ Some Nothing)) ⊎ ((number ≡ answer_number NoMemory) × (was ≡ None) × (now ≡ None))

-- what is done at a place, where there is one; else nothing is changed
abbrev pub AtPlace : (Held → Held → ℤ → Type 0) → Option Held → Option Held → ℤ → Type 0
AtPlace does (Some was) (Some now) number = does was now number
AtPlace does (Some was) None number = ⊥
AtPlace does None now number = (number ≡ answer_number OtherPlace) × (now ≡ None)

-- a value stands there, where there is one for the numbers that were passed; else nothing is changed
abbrev pub IsOpened : {M : Type 0} → (M → Held) → Option M → Held → Held → ℤ → Type 0
IsOpened held (Some value) was now number = (number ≡ answer_number Done) × (now ≡ held value)
IsOpened held None was now number = (number ≡ answer_number WrongForm) × (now ≡ was)

-- what stood there was of the kind, and nothing stands there any more; else nothing is changed
abbrev pub IsClosed : Bool → Held → Held → ℤ → Type 0
IsClosed true was now number = (number ≡ answer_number Done) × (now ≡ Nothing)
IsClosed false was now number = (number ≡ answer_number OtherPlace) × (now ≡ was)

-- a value of a job, where there are both
abbrev pub with_job : {M : Type 0} → Option (List ℕ) → Option M → Option (List ℕ × M)
with_job (Some job) (Some value) = Some (job, value)
with_job (Some job) None = None
with_job None value = None

-- why no table was restored
abbrev pub restoring_answer : Result Standing Answer → Answer
restoring_answer (Ok table) = Done
restoring_answer (Err why) = why

-- the restored table stands there, or nothing is changed
abbrev pub restored_held : List ℕ → Held → Result Standing Answer → Held
restored_held job was (Ok table) = Table job table
restored_held job was (Err why) = was

-- what was restored of the bytes, and what is returned and told of it
pub record IsRestoration (job : List ℕ) (policy : PolicyNumbers) (bytes : List ℕ) (was now : Held) (was_told now_told : AnswerDetails) (number : ℤ) : Type 0 where
  pub given : Result Standing Answer
  pub is : IsRestored job policy bytes given
  pub left : now ≡ restored_held job was given
  pub number_is : number ≡ answer_number (restoring_answer given)
  pub told_is : now_told ≡ answer_details (restoring_answer given) was_told

-- the same at a place; where there is none, or of no job, nothing is changed
abbrev pub IsRestoredAt : Option (List ℕ) → PolicyNumbers → List ℕ → Option Held → Option Held → AnswerDetails → AnswerDetails → ℤ → Type 0
IsRestoredAt job policy bytes None now was_told now_told number = (number ≡ answer_number OtherPlace) × (now ≡ None) × (now_told ≡ was_told)
IsRestoredAt None policy bytes (Some was) now was_told now_told number = (number ≡ answer_number WrongForm) × (now ≡ Some was) × (now_told ≡ was_told)
IsRestoredAt (Some job) policy bytes (Some was) (Some now) was_told now_told number = IsRestoration job policy bytes was now was_told now_told number
IsRestoredAt (Some job) policy bytes (Some was) None was_told now_told number = ⊥
