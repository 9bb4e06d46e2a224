-- A table that is restored from the message of kept values.
use Rattle.std.specs.Prelude.{◌≡◌, ℕ, List, codes, Bool, true, false, Option, Some, None, Result, Ok, Err}
use Rattle.machines.specs.Refusals.{first_of}
use Rattle.grants.specs.declared.kept.Kept.{Kept}
use Rattle.grants.specs.declared.kept.KeptFault.{KeptFault}
use Rattle.grants.specs.KeptValues.{kept_checks}
use Rattle.lease_table.specs.KeptValues.{restored_from}
use Rattle.grants.specs.Policies.{Terms, is_policy}
use Rattle.lease_table.specs.Tables.{Standing}
use Rattle.wire.specs.Kept.{kept_of}
use Rattle.wire.specs.declared.fault.DecodeError.{DecodeError}
use Rattle.c_calls.specs.declared.answer.Answer.{Answer}
use Rattle.c_calls.specs.declared.answer.Answer.TheVariants as answer
use Rattle.c_calls.specs.Reading.{unread_answer, IsReadFrom}
use Rattle.c_calls.specs.declared.policy_numbers.PolicyNumbers.{PolicyNumbers}
use Rattle.c_calls.specs.PolicyNumbers.{terms_of}

-- the restored table, unless the values are those of no table of the policy
abbrev pub restored_unless : Option KeptFault → Kept → Result Standing Answer
restored_unless None kept = Ok (restored_from kept)
restored_unless (Some why) kept = Err (answer.Kept why)

-- what is given of the values that were read; bytes that are none restore nothing
abbrev pub IsRestoredFrom : Terms → Result Standing Answer → Result Kept DecodeError → Type 0
IsRestoredFrom policy given (Ok kept) = given ≡ restored_unless (first_of (kept_checks policy kept)) kept
IsRestoredFrom policy given (Err why) = given ≡ Err (unread_answer why)

abbrev pub IsRestoredBy : List ℕ → Terms → List ℕ → Result Standing Answer → Type 0
IsRestoredBy job policy bytes given = IsReadFrom job (codes "kept") kept_of bytes (IsRestoredFrom policy given)

-- numbers that are no policy restore nothing
abbrev pub IsRestoredIn : List ℕ → Bool → Terms → List ℕ → Result Standing Answer → Type 0
IsRestoredIn job true policy bytes given = IsRestoredBy job policy bytes given
IsRestoredIn job false policy bytes given = given ≡ Err answer.WrongForm

abbrev pub IsRestored : List ℕ → PolicyNumbers → List ℕ → Result Standing Answer → Type 0
IsRestored job numbers bytes given = IsRestoredIn job (is_policy (terms_of numbers)) (terms_of numbers) bytes given
