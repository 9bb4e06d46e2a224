-- A call of a clock that is kept as numbers.
use Rattle.std.proofs.Common.{◌≡◌, ℕ, refl, subst, inl, Some, Ok, Err}
use Rattle.std.specs.Bool.{⊤}
use Rattle.clocks.specs.declared.drift.Drift.{Drift}
use Rattle.clocks.specs.declared.numbers.TaskClockNumbers.{TaskClockNumbers}
use Rattle.clocks.specs.declared.refusal.ClockRefusal.{ClockRefusal}
use Rattle.clocks.specs.declared.task_clock.TaskClock.{TaskClock}
use Rattle.clocks.specs.Drifts.{IsDriftOf}
use Rattle.clocks.specs.Numbers.{AreRead, IsClockOf}
use Rattle.clocks.specs.TaskClocks.{new_clock, sample_answer, after_sample, read_answer}
use Rattle.c_calls.specs.declared.answer.Answer.TheVariants.{Done, Clock}
use Rattle.c_calls.specs.TaskClocks.{IsNew, OnTaskClock, IsSampled, IsRead}

pub made : (extra per grain oldest : ℕ) (old new : TaskClockNumbers) (drift : Drift) (clock : TaskClock) → IsDriftOf extra per grain drift
    → clock ≡ new_clock drift oldest → IsClockOf new clock → IsNew extra per grain oldest old new Done
made extra per grain oldest old new drift clock is_drift same is_clock =
    inl (refl, record { drift = drift; is_drift = is_drift; is_clock = subst (λ k. IsClockOf new k) same is_clock })

pub sampled : (clock after : TaskClock) (sent reading now : ℕ) (old new : TaskClockNumbers) → IsClockOf old clock → Ok tt ≡ sample_answer clock sent now
    → after ≡ after_sample clock now (record { sent = sent; reading = reading }) (Ok tt) → IsClockOf new after
    → OnTaskClock old new Done ⊤ (λ known. IsSampled known sent reading now old new Done (sample_answer known sent now))
sampled clock after sent reading now old new is_clock answered same is_after = inl (record {
  clock = clock;
  is_clock = is_clock;
  done = subst (λ r. IsSampled clock sent reading now old new Done r) answered (refl, subst (λ k. IsClockOf new k) same is_after);
})

pub not_sampled : (clock : TaskClock) (sent reading now : ℕ) (old : TaskClockNumbers) (why : ClockRefusal) → IsClockOf old clock → Err why ≡ sample_answer clock sent now
    → OnTaskClock old old (Clock why) ⊤ (λ known. IsSampled known sent reading now old old (Clock why) (sample_answer known sent now))
not_sampled clock sent reading now old why is_clock refused = inl (record {
  clock = clock;
  is_clock = is_clock;
  done = subst (λ r. IsSampled clock sent reading now old old (Clock why) r) refused (refl, refl);
})

pub read : (now value was : ℕ) (old new : TaskClockNumbers) → AreRead old new now (Some (Ok value))
    → OnTaskClock old new Done (value ≡ was) (λ known. IsRead known now old new was value Done (read_answer known now))
read now value was old new on = inl (record {
  clock = on.clock;
  is_clock = on.is_clock;
  done = subst (λ r. IsRead on.clock now old new was value Done r) on.done.0 (refl, refl, on.done.1);
})

pub not_read : (now was : ℕ) (old new : TaskClockNumbers) (why : ClockRefusal) → AreRead old new now (Some (Err why))
    → OnTaskClock old new (Clock why) (was ≡ was) (λ known. IsRead known now old new was was (Clock why) (read_answer known now))
not_read now was old new why on = inl (record {
  clock = on.clock;
  is_clock = on.is_clock;
  done = subst (λ r. IsRead on.clock now old new was was (Clock why) r) on.done.0 (refl, on.done.1, refl);
})
