-- A block is not entered or left where the clock refuses.
use Rattle.std.proofs.Common.{◌≡◌, ℕ, refl}
use Rattle.clocks.specs.declared.numbers.TaskClockNumbers.{TaskClockNumbers}
use Rattle.clocks.specs.TaskClocks.{read_answer}
use Rattle.c_calls.specs.declared.answer.Answer.{Answer}
use Rattle.c_calls.specs.declared.answer.Answer.TheVariants.{Done}
use Rattle.c_calls.specs.TaskClocks.{IsRead, OnTaskClock}
use Rattle.log_lines.specs.Blocks.{AtClock, Kept, OnReading}

no_reading : (reading : Answer) (made : Type 0) (was : Kept) → (reading ≡ Done → ⊥) → OnReading reading made was was reading
no_reading Done made was differs = absurd (differs refl)
no_reading reading made was differs = (refl, refl)

pub not_made : (local : ℕ) (does : TaskClockNumbers → ℕ → Type 0) (was : Kept) (clock : TaskClockNumbers) (at : ℕ) (reading : Answer)
    → OnTaskClock was.clock clock reading (at ≡ was.block.at) (λ known. IsRead known local was.clock clock was.block.at at reading (read_answer known local))
    → (reading ≡ Done → ⊥) → AtClock local does was was reading
not_made local does was clock at reading is_read differs =
    record { clock = clock; at = at; reading = reading; is_read = is_read; made = no_reading reading (does clock at) was differs }
