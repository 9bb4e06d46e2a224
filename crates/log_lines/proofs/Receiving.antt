-- A grant is not received where the clock refuses.
use Rattle.std.proofs.Common.{◌≡◌, ℕ, List, refl}
use Rattle.clocks.specs.declared.numbers.TaskClockNumbers.{TaskClockNumbers}
use Rattle.clocks.specs.TaskClocks.{read_answer}
use Rattle.grants.specs.Policies.{is_policy}
use Rattle.c_calls.specs.declared.answer.Answer.{Answer}
use Rattle.c_calls.specs.declared.answer.Answer.TheVariants.{Done}
use Rattle.c_calls.specs.declared.policy_numbers.PolicyNumbers.{PolicyNumbers}
use Rattle.c_calls.specs.PolicyNumbers.{terms_of}
use Rattle.c_calls.specs.TaskClocks.{IsRead, OnTaskClock}
use Rattle.log_lines.specs.Receipts.{IsReceived, IsReceivedIn, OnValue, Received, read_at}

no_value : (reading : Answer) (made : Type 0) (was : Received) → (reading ≡ Done → ⊥) → OnValue reading made was was reading
no_value Done made was differs = absurd (differs refl)
no_value reading made was differs = (refl, refl)

pub not_received : (job : List ℕ) (policy : PolicyNumbers) (bytes : List ℕ) (local : ℕ) (was : Received) (clock : TaskClockNumbers) (at : ℕ) (reading : Answer)
    → OnTaskClock was.clock clock reading (at ≡ was.receipt.at) (λ known. IsRead known local was.clock clock was.receipt.at at reading (read_answer known local))
    → (reading ≡ Done → ⊥) → IsReceived job policy bytes local was was reading
not_received job policy bytes local was clock at reading is_read differs = record {
  clock = clock;
  at = at;
  reading = reading;
  is_read = is_read;
  made = no_value reading (IsReceivedIn (is_policy (terms_of policy)) job (terms_of policy) bytes clock (read_at at was.receipt) was was reading) was differs;
}
