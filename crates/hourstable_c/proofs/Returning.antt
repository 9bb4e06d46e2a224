-- An answer that is so, by its number and by what it tells.
use Rattle.std.proofs.Common.{◌≡◌, ℤ}
use Rattle.c_calls.specs.declared.answer.Answer.{Answer}
use Rattle.c_calls.specs.declared.details.AnswerDetails.{AnswerDetails}
use Rattle.c_calls.specs.AnswerNumbers.{answer_number}
use Rattle.c_calls.specs.Details.{answer_details}
use Rattle.hourstable_c.specs.Returned.{Returns, Tells}

pub returns : (is_so : Answer → Type 0) (answer : Answer) (number : ℤ) → is_so answer → number ≡ answer_number answer → Returns is_so number
returns is_so answer number is e = record { answer = answer; is = is; number_is = e }

pub tells : (is_so : Answer → Type 0) (answer : Answer) (was now : AnswerDetails) (number : ℤ) → is_so answer → number ≡ answer_number answer
    → now ≡ answer_details answer was → Tells is_so was now number
tells is_so answer was now number is e t = record { answer = answer; is = is; number_is = e; told_is = t }
