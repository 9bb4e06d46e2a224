-- What a task's clock answers is at or above each earlier reading of the table.
use Rattle.std.proofs.Common.{◌≡◌, ℕ, ◌+◌, ◌-◌, ◌^◌, ◌≤◌, max, [], ◌∷◌, inl, inr, Option, Some, None, MatchOption, Result, Ok, Err, IfOk, nat_lt, arith, subst, sym, refl, ◌∙◌}
use Rattle.std.specs.Bool.{⊤}
use Rattle.std.proofs.lemmas.Bool.{cond_both}
use Rattle.std.specs.List.{AllByRecursion}
use Rattle.clocks.specs.declared.drift.Drift.{Drift}
use Rattle.clocks.specs.declared.refusal.ClockRefusal.{ClockRefusal}
use Rattle.clocks.specs.declared.task_clock.Sample.{Sample}
use Rattle.clocks.specs.declared.task_clock.TaskClock.{TaskClock}
use Rattle.clocks.specs.TaskClocks.{reach, is_better, better_of, sample_answer, after_sample, answer_by, read_answer, after_read}
use Rattle.clocks.specs.Pasts.{Moment, Event, EarlyRead, TableRead, Sampled, TaskRead, Other, Past, local_of, IsNotBack, GainsWithin, IsWithinDrift, KeepsDrift, WasAnswered, SamplesAreAnswers, IsAtMost}
use Rattle.clocks.specs.Timely.{clock_after, IsTimely}
use Rattle.clocks.proofs.Stretching as stretched

-- from a bound to a larger one
is_below_more : (less more : ℕ) (event : Event) → less ≤ more → IsAtMost less event → IsAtMost more event
is_below_more less more (EarlyRead reading) least below = omega (arith, below, least)
is_below_more less more (TableRead moment) least below = omega (arith, below, least)
is_below_more less more (Sampled at sample) least below = tt
is_below_more less more (TaskRead at) least below = tt
is_below_more less more Other least below = tt

all_below_more : (less more : ℕ) (past : Past) → less ≤ more → AllByRecursion (IsAtMost less) past → AllByRecursion (IsAtMost more) past
all_below_more less more [] least below = tt
all_below_more less more (event ∷ past) least below = (is_below_more less more event least below.0, all_below_more less more past least below.1)

-- readings before one of the table are no larger
before : (drift : Drift) (value : ℕ) (late : Moment) (event : Event) → late.table ≤ value → IsWithinDrift drift (TableRead late) event → IsAtMost value event
before drift value late (EarlyRead reading) least within = omega (arith, least, within.readings)
before drift value late (TableRead moment) least within = omega (arith, least, within.readings.rises)
before drift value late (Sampled at sample) least within = tt
before drift value late (TaskRead at) least within = tt
before drift value late Other least within = tt

all_before : (drift : Drift) (value : ℕ) (late : Moment) (past : Past) → late.table ≤ value
    → AllByRecursion (IsWithinDrift drift (TableRead late)) past → AllByRecursion (IsAtMost value) past
all_before drift value late [] least within = tt
all_before drift value late (event ∷ past) least within = (before drift value late event least within.0, all_before drift value late past least within.1)

-- what the table's clock shows after an answer is within the drift
since : (drift : Drift) (sample : Sample) (at : ℕ) (late moment : Moment) → late.local ≤ at → GainsWithin drift late moment
    → moment.table ≡ sample.reading → sample.sent ≤ moment.local → late.table ≤ reach drift sample at + drift.grain
since drift sample at late moment seen within same sent =
    let shorter : late.local - moment.local ≤ at - sample.sent = omega (arith, seen, sent) in
    let grows = stretched.grows drift (late.local - moment.local) (at - sample.sent) shorter in
    omega (arith, within.gains, same, grows)

after_answer : (drift : Drift) (sample : Sample) (at : ℕ) (late : Moment) (past : Past) → late.local ≤ at
    → AllByRecursion (IsWithinDrift drift (TableRead late)) past → WasAnswered sample past → late.table ≤ reach drift sample at + drift.grain
after_answer drift sample at late [] seen within answered = absurd answered
after_answer drift sample at late (event ∷ past) seen within (inr earlier) = after_answer drift sample at late past seen within.1 earlier
after_answer drift sample at late (TableRead moment ∷ past) seen within (inl here) = since drift sample at late moment seen within.0.readings here.0 here.1
after_answer drift sample at late (EarlyRead reading ∷ past) seen within (inl here) = absurd here
after_answer drift sample at late (Sampled local other ∷ past) seen within (inl here) = absurd here
after_answer drift sample at late (TaskRead local ∷ past) seen within (inl here) = absurd here
after_answer drift sample at late (Other ∷ past) seen within (inl here) = absurd here

-- no answer came before the local clock ran
none_before : (drift : Drift) (sample : Sample) (reading : ℕ) (past : Past) → AllByRecursion (IsWithinDrift drift (EarlyRead reading)) past → WasAnswered sample past → ⊥
none_before drift sample reading [] within answered = answered
none_before drift sample reading (event ∷ past) within (inr earlier) = none_before drift sample reading past within.1 earlier
none_before drift sample reading (TableRead moment ∷ past) within (inl here) = within.0.readings
none_before drift sample reading (EarlyRead other ∷ past) within (inl here) = here
none_before drift sample reading (Sampled local other ∷ past) within (inl here) = here
none_before drift sample reading (TaskRead local ∷ past) within (inl here) = here
none_before drift sample reading (Other ∷ past) within (inl here) = here

-- what a sample bounds
head_below : (drift : Drift) (sample : Sample) (at : ℕ) (event : Event) (past : Past) → IsNotBack (local_of event) (Some at)
    → AllByRecursion (IsWithinDrift drift event) past → WasAnswered sample past → IsAtMost (reach drift sample at + drift.grain) event
head_below drift sample at (EarlyRead reading) past seen within answered = absurd (none_before drift sample reading past within answered)
head_below drift sample at (TableRead moment) past seen within answered = after_answer drift sample at moment past seen within answered
head_below drift sample at (Sampled local other) past seen within answered = tt
head_below drift sample at (TaskRead local) past seen within answered = tt
head_below drift sample at Other past seen within answered = tt

pub bounds : (drift : Drift) (sample : Sample) (at : ℕ) (past : Past) → KeepsDrift drift past
    → AllByRecursion (λ early. IsNotBack (local_of early) (Some at)) past → WasAnswered sample past
    → AllByRecursion (IsAtMost (reach drift sample at + drift.grain)) past
bounds drift sample at [] paced seen answered = tt
bounds drift sample at (event ∷ past) paced seen (inr earlier) =
    (head_below drift sample at event past seen.0 paced.0 earlier, bounds drift sample at past paced.1 seen.1 earlier)
bounds drift sample at (TableRead moment ∷ past) paced seen (inl here) =
    let low : moment.table ≤ reach drift sample at + drift.grain = omega (arith, here.0) in
    (low, all_before drift (reach drift sample at + drift.grain) moment past low paced.0)
bounds drift sample at (EarlyRead reading ∷ past) paced seen (inl here) = absurd here
bounds drift sample at (Sampled local other ∷ past) paced seen (inl here) = absurd here
bounds drift sample at (TaskRead local ∷ past) paced seen (inl here) = absurd here
bounds drift sample at (Other ∷ past) paced seen (inl here) = absurd here

-- THE KEPT SAMPLE IS AN ANSWER OF THE TABLE

abbrev pub IsKeptAnswer : Option Sample → Past → Type 0
IsKeptAnswer kept past = MatchOption kept ⊤ (λ sample. WasAnswered sample past)

still : (kept : Option Sample) (event : Event) (past : Past) → IsKeptAnswer kept past → IsKeptAnswer kept (event ∷ past)
still None event past answered = tt
still (Some sample) event past answered = inr answered

better_answered : (drift : Drift) (kept : Option Sample) (sample : Sample) (past : Past) → WasAnswered sample past → IsKeptAnswer kept past
    → WasAnswered (better_of drift kept sample) past
better_answered drift None sample past new answered = new
better_answered drift (Some old) sample past new answered =
    cond_both (is_better drift old sample) old sample (λ s. WasAnswered s past) (λ _. answered) (λ _. new)

taken : (clock : TaskClock) (now : ℕ) (sample : Sample) (answer : Result (Unit {0}) ClockRefusal) (event : Event) (past : Past) → WasAnswered sample past
    → IsKeptAnswer clock.best past → IsKeptAnswer (after_sample clock now sample answer).best (event ∷ past)
taken clock now sample (Ok done) event past new answered = inr (better_answered clock.drift clock.best sample past new answered)
taken clock now sample (Err why) event past new answered = still clock.best event past answered

read_keeps : (clock : TaskClock) (now : ℕ) (answer : Result ℕ ClockRefusal) → (after_read clock now answer).best ≡ clock.best
read_keeps clock now (Ok value) = refl
read_keeps clock now (Err why) = refl

pub kept_answered : (drift : Drift) (oldest : ℕ) (past : Past) → SamplesAreAnswers past → IsKeptAnswer (clock_after drift oldest past).best past
kept_answered drift oldest [] honest = tt
kept_answered drift oldest (EarlyRead reading ∷ past) honest = still (clock_after drift oldest past).best (EarlyRead reading) past (kept_answered drift oldest past honest)
kept_answered drift oldest (TableRead moment ∷ past) honest = still (clock_after drift oldest past).best (TableRead moment) past (kept_answered drift oldest past honest)
kept_answered drift oldest (Other ∷ past) honest = still (clock_after drift oldest past).best Other past (kept_answered drift oldest past honest)
kept_answered drift oldest (Sampled at sample ∷ past) honest =
    taken (clock_after drift oldest past) at sample (sample_answer (clock_after drift oldest past) sample.sent at) (Sampled at sample) past honest.0
    (kept_answered drift oldest past honest.1)
kept_answered drift oldest (TaskRead at ∷ past) honest =
    let clock = clock_after drift oldest past in
    subst (λ kept. IsKeptAnswer kept (TaskRead at ∷ past)) (sym (read_keeps clock at (read_answer clock at)))
    (still clock.best (TaskRead at) past (kept_answered drift oldest past honest))

-- WHAT IS ANSWERED

below_if_kept : (clock : TaskClock) (now : ℕ) (kept : Option Sample) (past : Past) → KeepsDrift clock.drift past
    → AllByRecursion (λ early. IsNotBack (local_of early) (Some now)) past → IsKeptAnswer kept past
    → IfOk (answer_by clock now kept) (λ value. AllByRecursion (IsAtMost value) past)
below_if_kept clock now None past paced seen answered = tt
below_if_kept clock now (Some sample) past paced seen answered =
    let bound = reach clock.drift sample now + clock.drift.grain in
    let P : Result ℕ ClockRefusal → Type 0 = λ r. IfOk r (λ value. AllByRecursion (IsAtMost value) past) in
    cond_both (nat_lt clock.oldest (now - clock.newest)) (Err _) _ P (λ _. tt)
    (λ _. cond_both (nat_lt bound (2 ^ 64)) (Ok (max clock.given bound)) (Err _) P
    (λ _. all_below_more bound (max clock.given bound) past (omega arith) (bounds clock.drift sample now past paced seen answered)) (λ _. tt))

-- the local readings before a later one
local_before : (drift : Drift) (now : ℕ) (past : Past) → AllByRecursion (IsWithinDrift drift (TaskRead now)) past
    → AllByRecursion (λ early. IsNotBack (local_of early) (Some now)) past
local_before drift now [] within = tt
local_before drift now (event ∷ past) within = (within.0.local, local_before drift now past within.1)

pub below_kept : (clock : TaskClock) (now : ℕ) (past : Past) → KeepsDrift clock.drift (TaskRead now ∷ past) → IsKeptAnswer clock.best past
    → IfOk (answer_by clock now clock.best) (λ value. AllByRecursion (IsAtMost value) past)
below_kept clock now past paced answered = below_if_kept clock now clock.best past paced.1 (local_before clock.drift now past paced.0) answered

below_read : (clock : TaskClock) (now : ℕ) (past : Past) → KeepsDrift clock.drift (TaskRead now ∷ past) → IsKeptAnswer clock.best past
    → IfOk (read_answer clock now) (λ value. AllByRecursion (IsAtMost value) past)
below_read clock now past paced answered =
    cond_both (nat_lt now clock.last) (Err _) (answer_by clock now clock.best) (λ r. IfOk r (λ value. AllByRecursion (IsAtMost value) past))
    (λ _. tt) (λ _. below_kept clock now past paced answered)

-- a clock keeps its drift
pub sample_drift : (clock : TaskClock) (now : ℕ) (sample : Sample) (answer : Result (Unit {0}) ClockRefusal) → (after_sample clock now sample answer).drift ≡ clock.drift
sample_drift clock now sample (Ok done) = refl
sample_drift clock now sample (Err why) = refl

pub read_drift : (clock : TaskClock) (now : ℕ) (answer : Result ℕ ClockRefusal) → (after_read clock now answer).drift ≡ clock.drift
read_drift clock now (Ok value) = refl
read_drift clock now (Err why) = refl

pub same_drift : (drift : Drift) (oldest : ℕ) (past : Past) → (clock_after drift oldest past).drift ≡ drift
same_drift drift oldest [] = refl
same_drift drift oldest (EarlyRead reading ∷ past) = same_drift drift oldest past
same_drift drift oldest (TableRead moment ∷ past) = same_drift drift oldest past
same_drift drift oldest (Other ∷ past) = same_drift drift oldest past
same_drift drift oldest (Sampled at sample ∷ past) =
    sample_drift (clock_after drift oldest past) at sample (sample_answer (clock_after drift oldest past) sample.sent at) ∙ same_drift drift oldest past
same_drift drift oldest (TaskRead at ∷ past) = read_drift (clock_after drift oldest past) at (read_answer (clock_after drift oldest past) at) ∙ same_drift drift oldest past

sample_oldest : (clock : TaskClock) (now : ℕ) (sample : Sample) (answer : Result (Unit {0}) ClockRefusal) → (after_sample clock now sample answer).oldest ≡ clock.oldest
sample_oldest clock now sample (Ok done) = refl
sample_oldest clock now sample (Err why) = refl

read_oldest : (clock : TaskClock) (now : ℕ) (answer : Result ℕ ClockRefusal) → (after_read clock now answer).oldest ≡ clock.oldest
read_oldest clock now (Ok value) = refl
read_oldest clock now (Err why) = refl

pub same_oldest : (drift : Drift) (oldest : ℕ) (past : Past) → (clock_after drift oldest past).oldest ≡ oldest
same_oldest drift oldest [] = refl
same_oldest drift oldest (EarlyRead reading ∷ past) = same_oldest drift oldest past
same_oldest drift oldest (TableRead moment ∷ past) = same_oldest drift oldest past
same_oldest drift oldest (Other ∷ past) = same_oldest drift oldest past
same_oldest drift oldest (Sampled at sample ∷ past) =
    sample_oldest (clock_after drift oldest past) at sample (sample_answer (clock_after drift oldest past) sample.sent at) ∙ same_oldest drift oldest past
same_oldest drift oldest (TaskRead at ∷ past) =
    read_oldest (clock_after drift oldest past) at (read_answer (clock_after drift oldest past) at) ∙ same_oldest drift oldest past

pub timely : (drift : Drift) (oldest : ℕ) (past : Past) → KeepsDrift drift past → SamplesAreAnswers past → IsTimely drift oldest past
timely drift oldest [] paced honest = tt
timely drift oldest (EarlyRead reading ∷ past) paced honest = timely drift oldest past paced.1 honest
timely drift oldest (TableRead moment ∷ past) paced honest = timely drift oldest past paced.1 honest
timely drift oldest (Other ∷ past) paced honest = timely drift oldest past paced.1 honest
timely drift oldest (Sampled at sample ∷ past) paced honest = timely drift oldest past paced.1 honest.1
timely drift oldest (TaskRead at ∷ past) paced honest = (
  below_read (clock_after drift oldest past) at past (subst (λ d. KeepsDrift d (TaskRead at ∷ past)) (sym (same_drift drift oldest past)) paced) (kept_answered drift oldest past honest),
  timely drift oldest past paced.1 honest,
)
