-- A clock that is kept as numbers.
use Rattle.std.proofs.Common.{◌≡◌, ℕ, Some, Ok, Err, refl, subst, sym}
use Rattle.clocks.specs.declared.numbers.TaskClockNumbers.{TaskClockNumbers}
use Rattle.clocks.specs.declared.refusal.ClockRefusal.{ClockRefusal}
use Rattle.clocks.specs.declared.task_clock.TaskClock.{TaskClock}
use Rattle.clocks.specs.Numbers.{AreRead, IsClockOf}
use Rattle.clocks.specs.TaskClocks.{read_answer, after_read}

-- the numbers after a reading that was not refused: the local reading and the value are the last ones
pub read_quickly : (old : TaskClockNumbers) (clock : TaskClock) (now value : ℕ) → IsClockOf old clock → read_answer clock now ≡ Ok value
    → AreRead old (record old { last = now; given = value }) now (Some (Ok value))
read_quickly old clock now value is_clock answered = record {
  clock = clock;
  is_clock = is_clock;
  done = (
    sym answered,
    record {
      drift = is_clock.drift;
      oldest = is_clock.oldest;
      best = is_clock.best;
      newest = is_clock.newest;
      last = refl;
      given = refl;
    },
  );
}

-- and those after any that was not refused
pub read_whole : (old new : TaskClockNumbers) (clock after : TaskClock) (now value : ℕ) → IsClockOf old clock → Ok value ≡ read_answer clock now
    → after ≡ after_read clock now (Ok value) → IsClockOf new after → AreRead old new now (Some (Ok value))
read_whole old new clock after now value is_clock answered same is_after =
    record { clock = clock; is_clock = is_clock; done = (answered, subst (λ k. IsClockOf new k) same is_after) }

-- a refusal changes nothing
pub not_read : (old : TaskClockNumbers) (clock : TaskClock) (now : ℕ) (why : ClockRefusal) → IsClockOf old clock → Err why ≡ read_answer clock now
    → AreRead old old now (Some (Err why))
not_read old clock now why is_clock refused = record { clock = clock; is_clock = is_clock; done = (refused, refl) }
