-- What a task's clock answers over a past, and the law of it.
use Rattle.std.specs.Prelude.{◌≡◌, ℕ, ◌+◌, ◌-◌, ◌≤◌, ◌⊎◌, List, [], ◌∷◌, Result, Ok, Err, MatchOption, IfOk, ⊤, Contains}
use Rattle.std.specs.List.{AllByRecursion}
use Rattle.clocks.specs.declared.drift.Drift.{Drift}
use Rattle.clocks.specs.declared.refusal.ClockRefusal.{ClockRefusal}
use Rattle.clocks.specs.declared.task_clock.Sample.{Sample}
use Rattle.clocks.specs.declared.task_clock.TaskClock.{TaskClock}
use Rattle.clocks.specs.Drifts.{most_gain}
use Rattle.clocks.specs.TaskClocks.{reach, new_clock, sample_answer, after_sample, read_answer, after_read}
use Rattle.clocks.specs.Pasts.{Sampled, TaskRead, Past, newest, IsAtMost}

-- the task's clock after what happened
abbrev pub clock_after : Drift → ℕ → Past → TaskClock
clock_after drift oldest [] = new_clock drift oldest
clock_after drift oldest (Sampled at sample ∷ past) =
    after_sample (clock_after drift oldest past) at sample (sample_answer (clock_after drift oldest past) sample.sent at)
clock_after drift oldest (TaskRead at ∷ past) = after_read (clock_after drift oldest past) at (read_answer (clock_after drift oldest past) at)
clock_after drift oldest (_ ∷ past) = clock_after drift oldest past

-- what happened leads to this clock
abbrev pub LeadsTo : Past → TaskClock → Type 0
LeadsTo past clock = clock_after clock.drift clock.oldest past ≡ clock

-- TIMELY: each value that the task's clock answered is at or above every reading of the table
-- before it
abbrev pub IsTimely : Drift → ℕ → Past → Type 0
IsTimely drift oldest [] = ⊤
IsTimely drift oldest (TaskRead at ∷ past) =
    IfOk (read_answer (clock_after drift oldest past) at) (λ value. AllByRecursion (IsAtMost value) past) × IsTimely drift oldest past
IsTimely drift oldest (_ ∷ past) = IsTimely drift oldest past

-- the values that the task's clock answered, newest first
abbrev pub with_answer : Result ℕ ClockRefusal → List ℕ → List ℕ
with_answer (Ok value) values = value ∷ values
with_answer (Err why) values = values

abbrev pub values_of : Drift → ℕ → Past → List ℕ
values_of drift oldest [] = []
values_of drift oldest (TaskRead at ∷ past) = with_answer (read_answer (clock_after drift oldest past) at) (values_of drift oldest past)
values_of drift oldest (_ ∷ past) = values_of drift oldest past

-- the samples that the task's clock took, newest first
abbrev pub with_sample : Sample → Result (Unit {0}) ClockRefusal → List Sample → List Sample
with_sample sample (Ok done) samples = sample ∷ samples
with_sample sample (Err why) samples = samples

abbrev pub samples_of : Drift → ℕ → Past → List Sample
samples_of drift oldest [] = []
samples_of drift oldest (Sampled at sample ∷ past) =
    with_sample sample (sample_answer (clock_after drift oldest past) sample.sent at) (samples_of drift oldest past)
samples_of drift oldest (_ ∷ past) = samples_of drift oldest past

-- no value is below an earlier one
abbrev pub IsRising : List ℕ → Type 0
IsRising [] = ⊤
IsRising (late ∷ before) = AllByRecursion (λ early. early ≤ late) before × IsRising before

-- a sample says no more than another one at each local reading from this one on
abbrev pub SaysLess : Drift → ℕ → Sample → Sample → Type 0
SaysLess drift last sample other = (at : ℕ) → last ≤ at → reach drift sample at ≤ reach drift other at

-- the kept sample is one of those that were taken, and says no more than any of them
abbrev pub IsBest : Drift → TaskClock → List Sample → Type 0
IsBest drift clock samples = MatchOption clock.best (samples ≡ []) (λ kept. Contains samples kept × AllByRecursion (SaysLess drift clock.last kept) samples)

-- one of these samples was sent at most this long before
abbrev pub HasFresh : ℕ → ℕ → List Sample → Type 0
HasFresh age at [] = ⊥
HasFresh age at (sample ∷ samples) = (at - sample.sent ≤ age) ⊎ HasFresh age at samples

-- at each answer the clock had taken a sample that was sent at most this long before
abbrev pub IsFresh : Drift → ℕ → ℕ → Past → Type 0
IsFresh drift oldest age [] = ⊤
IsFresh drift oldest age (TaskRead at ∷ past) =
    IfOk (read_answer (clock_after drift oldest past) at) (λ _. HasFresh age at (samples_of drift oldest past)) × IsFresh drift oldest age past
IsFresh drift oldest age (_ ∷ past) = IsFresh drift oldest age past

-- CLOSE: each answer is above the greatest reading of the table before it by no more than the drift
-- of this long
abbrev pub IsClose : Drift → ℕ → ℕ → Past → Type 0
IsClose drift oldest age [] = ⊤
IsClose drift oldest age (TaskRead at ∷ past) =
    IfOk (read_answer (clock_after drift oldest past) at) (λ value. value ≤ newest past + most_gain drift age + drift.grain) × IsClose drift oldest age past
IsClose drift oldest age (_ ∷ past) = IsClose drift oldest age past
