-- Calls by slice key: the same as by a key that has it. A number that is no slice key is refused, and nothing is written.
use Rattle.std.specs.Prelude.{◌≡◌, ℕ, List, Option, Some, None}
use Rattle.grants.specs.declared.slicelet_call.SliceletCall.{SliceletCall}
use Rattle.slicelet.specs.States.{SliceletState, newest_covering}
use Rattle.c_calls.specs.declared.answer.Answer.{Answer}
use Rattle.c_calls.specs.declared.answer.Answer.TheVariants.{WrongForm}
use Rattle.c_calls.specs.declared.details.AnswerDetails.{AnswerDetails}
use Rattle.c_calls.specs.Details.{covering_details, covering_number}
use Rattle.c_calls.specs.declared.slicelets.handle_numbers.HandleNumbers.{HandleNumbers}
use Rattle.c_calls.specs.slicelets.KeyHandles.{hold_numbers}
use Rattle.c_calls.specs.slicelets.Keys.{rule_at, rule_at_after, taken_at}
use Rattle.c_calls.specs.slicelets.Leases.{IsServed}

-- whether the key may be served: over what the slicelet knows, and over calls
abbrev pub IsServedAt : Option ℕ → SliceletState → ℕ → Answer → Type 0
IsServedAt None s at answer = answer ≡ WrongForm
IsServedAt (Some key) s at answer = IsServed (rule_at key s at) s answer

abbrev pub IsServedAfter : Option ℕ → List SliceletCall → SliceletState → ℕ → Answer → Type 0
IsServedAfter None calls s at answer = answer ≡ WrongForm
IsServedAfter (Some key) calls s at answer = IsServed (rule_at_after key calls at) s answer

-- what is written of a handle on the key
abbrev pub hold_numbers_at : Option ℕ → SliceletState → ℕ → HandleNumbers → HandleNumbers
hold_numbers_at None s at was = was
hold_numbers_at (Some key) s at was = hold_numbers (taken_at (rule_at key s at) key s) was

-- what is written of the greatest generation that covers the key
abbrev pub covering_at : Option ℕ → SliceletState → ℕ → ℕ
covering_at None s was = was
covering_at (Some key) s was = covering_number (newest_covering s key)

-- the same among the details of an answer
abbrev pub covering_told : Option ℕ → SliceletState → AnswerDetails → AnswerDetails
covering_told None s was = was
covering_told (Some key) s was = covering_details (newest_covering s key) was
