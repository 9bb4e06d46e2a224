-- A task's clock as numbers.
use Rattle.std.specs.Prelude.{◌≡◌, ℕ, nat_eq, Option, Some, None, Result, Ok, Err, if◌then◌else◌}
use Rattle.clocks.specs.declared.numbers.TaskClockNumbers.{TaskClockNumbers}
use Rattle.clocks.specs.declared.task_clock.Sample.{Sample}
use Rattle.clocks.specs.declared.task_clock.TaskClock.{TaskClock}
use Rattle.clocks.specs.declared.refusal.ClockRefusal.{ClockRefusal}
use Rattle.clocks.specs.Drifts.{IsDriftOf}
use Rattle.clocks.specs.TaskClocks.{read_answer, after_read}

-- the best sample, unless there is none
abbrev pub sample_of : TaskClockNumbers → Option Sample
sample_of numbers = if nat_eq numbers.sampled 0 then None else Some (record { sent = numbers.sent; reading = numbers.reading })

-- the clock of these numbers
pub record IsClockOf (numbers : TaskClockNumbers) (clock : TaskClock) : Type 0 where
  pub drift : IsDriftOf numbers.extra numbers.per numbers.grain clock.drift
  pub oldest : clock.oldest ≡ numbers.oldest
  pub best : clock.best ≡ sample_of numbers
  pub newest : clock.newest ≡ numbers.newest
  pub last : clock.last ≡ numbers.last
  pub given : clock.given ≡ numbers.given

-- a call of the clock of these numbers
pub record OnClock (numbers : TaskClockNumbers) (does : TaskClock → Type 0) : Type 0 where
  pub clock : TaskClock
  pub is_clock : IsClockOf numbers clock
  pub done : does clock

-- the numbers after a reading of their clock; a refusal changes nothing
abbrev pub AreAfter : TaskClock → ℕ → TaskClockNumbers → TaskClockNumbers → Result ℕ ClockRefusal → Type 0
AreAfter clock now old new (Ok value) = IsClockOf new (after_read clock now (Ok value))
AreAfter clock now old new (Err why) = new ≡ old

-- what a reading of their clock returned, and the numbers after it; or `per` is 0, and nothing changed
abbrev pub AreRead : TaskClockNumbers → TaskClockNumbers → ℕ → Option (Result ℕ ClockRefusal) → Type 0
AreRead old new now (Some answer) = OnClock old (λ clock. (answer ≡ read_answer clock now) × AreAfter clock now old new answer)
AreRead old new now None = (old.per ≡ 0) × (new ≡ old)
