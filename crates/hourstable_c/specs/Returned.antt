-- What a function returns and tells of an answer.
use Rattle.std.specs.Prelude.{◌≡◌, ℤ}
use Rattle.c_calls.specs.declared.answer.Answer.{Answer}
use Rattle.c_calls.specs.declared.details.AnswerDetails.{AnswerDetails}
use Rattle.c_calls.specs.AnswerNumbers.{answer_number}
use Rattle.c_calls.specs.Details.{answer_details}

-- the number of an answer that is so
pub record Returns (is_so : Answer → Type 0) (number : ℤ) : Type 0 where
  pub answer : Answer
  pub is : is_so answer
  pub number_is : number ≡ answer_number answer

-- its number, and what it tells
pub record Tells (is_so : Answer → Type 0) (was now : AnswerDetails) (number : ℤ) : Type 0 where
  pub answer : Answer
  pub is : is_so answer
  pub number_is : number ≡ answer_number answer
  pub told_is : now ≡ answer_details answer was
