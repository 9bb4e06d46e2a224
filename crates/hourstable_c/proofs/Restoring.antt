-- A table that is restored at a place, and one that is not.
use Rattle.std.proofs.Common.{◌≡◌, ℕ, ℤ, List, Ok, Err}
use Rattle.lease_table.specs.Tables.{Standing}
use Rattle.c_calls.specs.declared.answer.Answer.{Answer}
use Rattle.c_calls.specs.declared.answer.Answer.TheVariants.{Done}
use Rattle.c_calls.specs.declared.details.AnswerDetails.{AnswerDetails}
use Rattle.c_calls.specs.AnswerNumbers.{answer_number}
use Rattle.c_calls.specs.Details.{answer_details}
use Rattle.hourstable_c.specs.declared.held.Held.{Held}
use Rattle.hourstable_c.specs.declared.held.Held.TheVariants.{Table}
use Rattle.c_calls.specs.declared.policy_numbers.PolicyNumbers.{PolicyNumbers}
use Rattle.c_calls.specs.tables.Keeping.{IsRestored}
use Rattle.hourstable_c.specs.Opened.{IsRestoration}

pub restores : (job : List ℕ) (policy : PolicyNumbers) (bytes : List ℕ) (was now : Held) (told : AnswerDetails) (number : ℤ) (table : Standing)
    → IsRestored job policy bytes (Ok table) → now ≡ Table job table → number ≡ answer_number Done → IsRestoration job policy bytes was now told told number
restores job policy bytes was now told number table is left e = record { given = Ok table; is = is; left = left; number_is = e; told_is = λ i. told }

pub refuses : (job : List ℕ) (policy : PolicyNumbers) (bytes : List ℕ) (held : Held) (was_told now_told : AnswerDetails) (number : ℤ) (why : Answer)
    → IsRestored job policy bytes (Err why) → number ≡ answer_number why → now_told ≡ answer_details why was_told → IsRestoration job policy bytes held held was_told now_told number
refuses job policy bytes held was_told now_told number why is e t = record { given = Err why; is = is; left = λ i. held; number_is = e; told_is = t }
