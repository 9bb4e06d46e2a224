-- What the calls of a task's clock leave and return.
use Rattle.std.specs.Prelude.{◌≡◌, ℕ, ◌⊎◌, Result, Ok, Err}
use Rattle.clocks.specs.declared.drift.Drift.{Drift}
use Rattle.clocks.specs.declared.numbers.TaskClockNumbers.{TaskClockNumbers}
use Rattle.clocks.specs.declared.refusal.ClockRefusal.{ClockRefusal}
use Rattle.clocks.specs.declared.task_clock.TaskClock.{TaskClock}
use Rattle.clocks.specs.Drifts.{IsDriftOf}
use Rattle.clocks.specs.Numbers.{IsClockOf, OnClock}
use Rattle.clocks.specs.TaskClocks.{new_clock, after_sample, after_read}
use Rattle.c_calls.specs.declared.answer.Answer.{Answer}
use Rattle.c_calls.specs.declared.answer.Answer.TheVariants.{Done, WrongForm, Clock}

-- the numbers of a new clock of this drift; or `per` is 0, and nothing changed
pub record IsNewOf (extra per grain oldest : ℕ) (new : TaskClockNumbers) : Type 0 where
  pub drift : Drift
  pub is_drift : IsDriftOf extra per grain drift
  pub is_clock : IsClockOf new (new_clock drift oldest)

abbrev pub IsNew : ℕ → ℕ → ℕ → ℕ → TaskClockNumbers → TaskClockNumbers → Answer → Type 0
IsNew extra per grain oldest old new answer =
    ((answer ≡ Done) × IsNewOf extra per grain oldest new) ⊎ ((per ≡ 0) × (answer ≡ WrongForm) × (new ≡ old))

-- a call of the clock of these numbers; or `per` is 0, and nothing changed
abbrev pub OnTaskClock : TaskClockNumbers → TaskClockNumbers → Answer → Type 0 → (TaskClock → Type 0) → Type 0
OnTaskClock old new answer same does = OnClock old does ⊎ ((old.per ≡ 0) × (answer ≡ WrongForm) × (new ≡ old) × same)

-- a sample was taken, or the clock refused it, and nothing changed
abbrev pub IsSampled : TaskClock → ℕ → ℕ → ℕ → TaskClockNumbers → TaskClockNumbers → Answer → Result (Unit {0}) ClockRefusal → Type 0
IsSampled clock sent reading now old new answer (Ok done) =
    (answer ≡ Done) × IsClockOf new (after_sample clock now (record { sent = sent; reading = reading }) (Ok done))
IsSampled clock sent reading now old new answer (Err why) = (answer ≡ Clock why) × (new ≡ old)

-- the value was written, or the clock refused the call, and nothing changed
abbrev pub IsRead : TaskClock → ℕ → TaskClockNumbers → TaskClockNumbers → ℕ → ℕ → Answer → Result ℕ ClockRefusal → Type 0
IsRead clock now old new was out answer (Ok value) = (answer ≡ Done) × (out ≡ value) × IsClockOf new (after_read clock now (Ok value))
IsRead clock now old new was out answer (Err why) = (answer ≡ Clock why) × (new ≡ old) × (out ≡ was)
