-- Key handles as structs of numbers, and what is answered of them.
use Rattle.std.specs.Prelude.{◌≡◌, ℕ, ◌&&◌, nat_lt, Bool, true, false, List, Option, Some, None, Result, Ok, Err, if◌then◌else◌}
use Rattle.assignment.specs.Slices.{is_task}
use Rattle.slice_ranges.specs.declared.key.TheConstants.{KEYS}
use Rattle.lease_rule.specs.declared.answer.Ground.{Ground}
use Rattle.grants.specs.declared.slicelet_call.SliceletCall.{SliceletCall}
use Rattle.grants.specs.declared.slicelet_error.Stranger.{Stranger}
use Rattle.key_handle.specs.declared.handle.KeyHandle.{KeyHandle}
use Rattle.slicelet.specs.Continuity.{checked_in, IsChecked}
use Rattle.slicelet.specs.States.{SliceletState}
use Rattle.c_calls.specs.declared.answer.Answer.{Answer}
use Rattle.c_calls.specs.declared.answer.Answer.TheVariants as answer
use Rattle.c_calls.specs.declared.slicelets.handle_numbers.HandleNumbers.{HandleNumbers}

-- the numbers of a handle
abbrev pub handle_numbers : KeyHandle → HandleNumbers
handle_numbers handle = record { task = handle.task; slice_key = handle.key; position = handle.position; life = handle.life }

-- the handle of these numbers, where the task is one and the key is one
abbrev pub handle_of : HandleNumbers → Option KeyHandle
handle_of n = if is_task n.task && nat_lt n.slice_key KEYS
    then Some (record { task = n.task; life = n.life; key = n.slice_key; position = n.position })
    else None

-- what is written of a handle that was taken, and nothing where it was denied
abbrev pub hold_numbers : Result KeyHandle Ground → HandleNumbers → HandleNumbers
hold_numbers (Ok handle) was = handle_numbers handle
hold_numbers (Err why) was = was

-- what is answered where a handle was checked
abbrev pub checked_answer : Result Bool Stranger → Answer
checked_answer (Ok true) = answer.Done
checked_answer (Ok false) = answer.Broken
checked_answer (Err stranger) = answer.Stranger

-- what a check of these numbers answers
abbrev pub check_answer : Option KeyHandle → SliceletState → ℕ → Answer
check_answer None s at = answer.WrongForm
check_answer (Some handle) s at = checked_answer (checked_in s handle at)

-- the same, by the calls that the slicelet accepted
pub record IsCheckAnswered (calls : List SliceletCall) (s : SliceletState) (handle : KeyHandle) (at : ℕ) (given : Answer) : Type 0 where
  pub checked : Result Bool Stranger
  pub answer : given ≡ checked_answer checked
  pub is_checked : IsChecked s.task calls handle at checked
