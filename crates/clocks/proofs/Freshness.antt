-- What a task's clock answers is close to the table's.
use Rattle.std.proofs.Common.{◌≡◌, ℕ, ◌⊎◌, refl, true, false, nat_le, ◌+◌, ◌-◌, ◌^◌, ◌≤◌, max, [], ◌∷◌, List, inl, inr, Option, Some, None, Result, Ok, Err, IfOk, nat_lt, arith, subst, sym}
use Rattle.std.proofs.lemmas.Bool.{cond_both, ltb-false, leb-true, leb-false}
use Rattle.std.specs.List.{AllByRecursion}
use Rattle.clocks.specs.declared.drift.Drift.{Drift}
use Rattle.clocks.specs.declared.refusal.ClockRefusal.{ClockRefusal}
use Rattle.clocks.specs.declared.task_clock.Sample.{Sample}
use Rattle.clocks.specs.declared.task_clock.TaskClock.{TaskClock}
use Rattle.clocks.specs.Drifts.{most_gain}
use Rattle.clocks.specs.TaskClocks.{reach, sample_answer, after_sample, answer_by, read_answer, after_read}
use Rattle.clocks.specs.Pasts.{Event, EarlyRead, TableRead, Sampled, TaskRead, Other, Past, newest, WasAnswered, SamplesAreAnswers}
use Rattle.clocks.specs.Timely.{clock_after, with_sample, samples_of, SaysLess, HasFresh, IsFresh, IsClose}
use Rattle.clocks.proofs.Stretching as stretched
use Rattle.clocks.proofs.Bounding.{same_drift, same_oldest}
use Rattle.clocks.proofs.Keeping.{IsKept, keeps, sample_given}

-- the greatest reading only grows
newest_grows : (event : Event) (past : Past) → newest past ≤ newest (event ∷ past)
newest_grows (EarlyRead reading) past = omega arith
newest_grows (TableRead moment) past = omega arith
newest_grows (Sampled at sample) past = omega arith
newest_grows (TaskRead at) past = omega arith
newest_grows Other past = omega arith

-- an answer of the table is at most the greatest reading
newest_above : (sample : Sample) (past : Past) → WasAnswered sample past → sample.reading ≤ newest past
newest_above sample [] answered = absurd answered
newest_above sample (event ∷ past) (inr earlier) = omega (arith, newest_above sample past earlier, newest_grows event past)
newest_above sample (TableRead moment ∷ past) (inl here) = omega (arith, here.0)
newest_above sample (EarlyRead reading ∷ past) (inl here) = absurd here
newest_above sample (Sampled at other ∷ past) (inl here) = absurd here
newest_above sample (TaskRead at ∷ past) (inl here) = absurd here
newest_above sample (Other ∷ past) (inl here) = absurd here

abbrev AreBelow : ℕ → List Sample → Type 0
AreBelow most samples = AllByRecursion (λ sample. sample.reading ≤ most) samples

below_later : (less more : ℕ) (samples : List Sample) → less ≤ more → AreBelow less samples → AreBelow more samples
below_later less more [] order below = tt
below_later less more (sample ∷ samples) order below = (omega (arith, order, below.0), below_later less more samples order below.1)

below_with : (most : ℕ) (sample : Sample) (answer : Result (Unit {0}) ClockRefusal) (samples : List Sample) → sample.reading ≤ most → AreBelow most samples
    → AreBelow most (with_sample sample answer samples)
below_with most sample (Ok done) samples low below = (low, below)
below_with most sample (Err why) samples low below = below

samples_below : (drift : Drift) (oldest : ℕ) (past : Past) → SamplesAreAnswers past → AreBelow (newest past) (samples_of drift oldest past)
samples_below drift oldest [] honest = tt
samples_below drift oldest (EarlyRead reading ∷ past) honest =
    below_later (newest past) (newest (EarlyRead reading ∷ past)) (samples_of drift oldest past) (newest_grows (EarlyRead reading) past) (samples_below drift oldest past honest)
samples_below drift oldest (TableRead moment ∷ past) honest =
    below_later (newest past) (newest (TableRead moment ∷ past)) (samples_of drift oldest past) (newest_grows (TableRead moment) past) (samples_below drift oldest past honest)
samples_below drift oldest (TaskRead at ∷ past) honest = samples_below drift oldest past honest
samples_below drift oldest (Other ∷ past) honest = samples_below drift oldest past honest
samples_below drift oldest (Sampled at sample ∷ past) honest =
    below_with (newest past) sample (sample_answer (clock_after drift oldest past) sample.sent at) (samples_of drift oldest past) (newest_above sample past honest.0)
    (samples_below drift oldest past honest.1)

-- the kept sample says no more than a fresh one
pick : (drift : Drift) (last : ℕ) (kept : Sample) (age at most : ℕ) (samples : List Sample) → last ≤ at → HasFresh age at samples
    → AllByRecursion (SaysLess drift last kept) samples → AreBelow most samples → reach drift kept at ≤ most + most_gain drift age
pick drift last kept age at most [] order fresh least below = absurd fresh
pick drift last kept age at most (sample ∷ samples) order (inl young) least below =
    omega (arith, least.0 at order, below.0, stretched.grows drift (at - sample.sent) age young)
pick drift last kept age at most (sample ∷ samples) order (inr fresh) least below = pick drift last kept age at most samples order fresh least.1 below.1

-- what is answered then
record IsReady (clock : TaskClock) (age now most : ℕ) (samples : List Sample) : Type 0 where
  pub given : clock.given ≤ most + most_gain clock.drift age + clock.drift.grain
  pub kept : IsKept clock.drift clock.last clock.best samples
  pub below : AreBelow most samples

abbrev Becomes : TaskClock → ℕ → ℕ → ℕ → List Sample → Result ℕ ClockRefusal → Type 0
Becomes clock age now most samples answer =
    IfOk answer (λ _. HasFresh age now samples) → IfOk answer (λ value. value ≤ most + most_gain clock.drift age + clock.drift.grain)

kept_close : (clock : TaskClock) (age now most : ℕ) (samples : List Sample) (kept : Option Sample) → clock.last ≤ now
    → clock.given ≤ most + most_gain clock.drift age + clock.drift.grain → IsKept clock.drift clock.last kept samples → AreBelow most samples
    → Becomes clock age now most samples (answer_by clock now kept)
kept_close clock age now most samples None order given is below = λ _. tt
kept_close clock age now most samples (Some sample) order given is below =
    let bound = reach clock.drift sample now + clock.drift.grain in
    let P = Becomes clock age now most samples in
    cond_both (nat_lt clock.oldest (now - clock.newest)) (Err _) _ P (λ _. λ _. tt)
    (λ _. cond_both (nat_lt bound (2 ^ 64)) (Ok (max clock.given bound)) (Err _) P
    (λ _. λ fresh.
    let low = pick clock.drift clock.last sample age now most samples order fresh is.least below in
    omega (arith, given, low))
    (λ _. λ _. tt))

read_close : (clock : TaskClock) (age now most : ℕ) (samples : List Sample) → IsReady clock age now most samples
    → Becomes clock age now most samples (read_answer clock now)
read_close clock age now most samples ready =
    cond_both (nat_lt now clock.last) (Err _) (answer_by clock now clock.best) (Becomes clock age now most samples) (λ _. λ _. tt)
    (λ order. kept_close clock age now most samples clock.best (ltb-false _ _ order) ready.given ready.kept ready.below)

-- what is known of each past
record IsHeld (drift : Drift) (oldest : ℕ) (age : ℕ) (past : Past) : Type 0 where
  pub given : (clock_after drift oldest past).given ≤ newest past + most_gain drift age + drift.grain
  pub close : IsClose drift oldest age past

answer_close : (drift : Drift) (oldest : ℕ) (age at : ℕ) (past : Past) → SamplesAreAnswers past → IsHeld drift oldest age past
    → IfOk (read_answer (clock_after drift oldest past) at) (λ _. HasFresh age at (samples_of drift oldest past))
    → IfOk (read_answer (clock_after drift oldest past) at) (λ value. value ≤ newest past + most_gain drift age + drift.grain)
answer_close drift oldest age at past honest held fresh =
    let clock = clock_after drift oldest past in
    let samples = samples_of drift oldest past in
    let own = same_drift drift oldest past in
    let ready : IsReady clock age at (newest past) samples = record {
      given = subst (λ d. clock.given ≤ newest past + most_gain d age + d.grain) (sym own) held.given;
      kept = subst (λ d. IsKept d clock.last clock.best samples) (sym own) (keeps drift oldest past);
      below = samples_below drift oldest past honest;
    } in
    subst (λ d. IfOk (read_answer clock at) (λ value. value ≤ newest past + most_gain d age + d.grain)) own
    (read_close clock age at (newest past) samples ready fresh)

given_close : (clock : TaskClock) (now most : ℕ) (answer : Result ℕ ClockRefusal) → clock.given ≤ most → IfOk answer (λ value. value ≤ most)
    → (after_read clock now answer).given ≤ most
given_close clock now most (Ok value) low close = close
given_close clock now most (Err why) low close = low

held : (drift : Drift) (oldest : ℕ) (age : ℕ) (past : Past) → SamplesAreAnswers past → IsFresh drift oldest age past → IsHeld drift oldest age past
held drift oldest age [] honest fresh = record { given = omega arith; close = tt }
held drift oldest age (EarlyRead reading ∷ past) honest fresh =
    let known = held drift oldest age past honest fresh in
    record { given = omega (arith, known.given); close = known.close }
held drift oldest age (TableRead moment ∷ past) honest fresh =
    let known = held drift oldest age past honest fresh in
    record { given = omega (arith, known.given); close = known.close }
held drift oldest age (Other ∷ past) honest fresh =
    let known = held drift oldest age past honest fresh in
    record { given = known.given; close = known.close }
held drift oldest age (Sampled at sample ∷ past) honest fresh =
    let known = held drift oldest age past honest.1 fresh in
    let same = sample_given (clock_after drift oldest past) at sample (sample_answer (clock_after drift oldest past) sample.sent at) in
    record { given = omega (arith, known.given, same); close = known.close }
held drift oldest age (TaskRead at ∷ past) honest fresh =
    let known = held drift oldest age past honest fresh.1 in
    let close = answer_close drift oldest age at past honest known fresh.0 in
    record {
      given = given_close (clock_after drift oldest past) at (newest past + most_gain drift age + drift.grain) (read_answer (clock_after drift oldest past) at) known.given close;
      close = (close, known.close);
    }

pub close : (drift : Drift) (oldest : ℕ) (age : ℕ) (past : Past) → SamplesAreAnswers past → IsFresh drift oldest age past → IsClose drift oldest age past
close drift oldest age past honest fresh = (held drift oldest age past honest fresh).close

-- A CLOCK THAT ANSWERS HAS A FRESH SAMPLE

-- one of these samples was sent then
abbrev HasSent : ℕ → List Sample → Type 0
HasSent sent [] = ⊥
HasSent sent (sample ∷ samples) = (sample.sent ≡ sent) ⊎ HasSent sent samples

-- the newest `sent` is that of a sample, if there is one
abbrev IsNewest : ℕ → Option Sample → List Sample → Type 0
IsNewest newest None samples = newest ≡ 0
IsNewest newest (Some best) samples = HasSent newest samples

greater : (one two : ℕ) → (max one two ≡ one) ⊎ (max one two ≡ two)
greater one two =
    elim (nat_le one two) as (λ b. b ≡ nat_le one two → (max one two ≡ one) ⊎ (max one two ≡ two)) [
      | true ↦ λ order. inr (let low : one ≤ two = leb-true one two (sym order) in omega (arith, low))
      | false ↦ λ order. inl (let low = leb-false one two (sym order) in omega (arith, low))
    ] refl

sent_more : (best : Option Sample) (newest : ℕ) (sample : Sample) (samples : List Sample) → IsNewest newest best samples → HasSent (max newest sample.sent) (sample ∷ samples)
sent_more None newest sample samples known = inl (omega (arith, known))
sent_more (Some best) newest sample samples known =
    elim (greater newest sample.sent) [
      | inl same ↦ inr (subst (λ sent. HasSent sent samples) (sym same) known)
      | inr same ↦ inl (sym same)
    ]

newest_sampled : (clock : TaskClock) (now : ℕ) (sample : Sample) (answer : Result (Unit {0}) ClockRefusal) (samples : List Sample)
    → IsNewest clock.newest clock.best samples
    → IsNewest (after_sample clock now sample answer).newest (after_sample clock now sample answer).best (with_sample sample answer samples)
newest_sampled clock now sample (Ok done) samples known = sent_more clock.best clock.newest sample samples known
newest_sampled clock now sample (Err why) samples known = known

newest_read : (clock : TaskClock) (now : ℕ) (answer : Result ℕ ClockRefusal) (samples : List Sample) → IsNewest clock.newest clock.best samples
    → IsNewest (after_read clock now answer).newest (after_read clock now answer).best samples
newest_read clock now (Ok value) samples known = known
newest_read clock now (Err why) samples known = known

newest_sent : (drift : Drift) (oldest : ℕ) (past : Past)
    → IsNewest (clock_after drift oldest past).newest (clock_after drift oldest past).best (samples_of drift oldest past)
newest_sent drift oldest [] = refl
newest_sent drift oldest (EarlyRead reading ∷ past) = newest_sent drift oldest past
newest_sent drift oldest (TableRead moment ∷ past) = newest_sent drift oldest past
newest_sent drift oldest (Other ∷ past) = newest_sent drift oldest past
newest_sent drift oldest (Sampled at sample ∷ past) =
    let clock = clock_after drift oldest past in
    newest_sampled clock at sample (sample_answer clock sample.sent at) (samples_of drift oldest past) (newest_sent drift oldest past)
newest_sent drift oldest (TaskRead at ∷ past) =
    let clock = clock_after drift oldest past in
    newest_read clock at (read_answer clock at) (samples_of drift oldest past) (newest_sent drift oldest past)

young : (sent oldest at : ℕ) (samples : List Sample) → at - sent ≤ oldest → HasSent sent samples → HasFresh oldest at samples
young sent oldest at [] order has = absurd has
young sent oldest at (sample ∷ samples) order (inl same) = inl (omega (arith, order, same))
young sent oldest at (sample ∷ samples) order (inr has) = inr (young sent oldest at samples order has)

fresh_by : (clock : TaskClock) (at : ℕ) (best : Option Sample) (samples : List Sample) → IsNewest clock.newest best samples
    → IfOk (answer_by clock at best) (λ _. HasFresh clock.oldest at samples)
fresh_by clock at None samples known = tt
fresh_by clock at (Some best) samples known =
    let P : Result ℕ ClockRefusal → Type 0 = λ r. IfOk r (λ _. HasFresh clock.oldest at samples) in
    cond_both (nat_lt clock.oldest (at - clock.newest)) (Err _) _ P (λ _. tt)
    (λ order. cond_both (nat_lt (reach clock.drift best at + clock.drift.grain) (2 ^ 64)) (Ok _) (Err _) P
    (λ _. young clock.newest clock.oldest at samples (ltb-false _ _ order) known) (λ _. tt))

fresh_read : (clock : TaskClock) (at : ℕ) (samples : List Sample) → IsNewest clock.newest clock.best samples
    → IfOk (read_answer clock at) (λ _. HasFresh clock.oldest at samples)
fresh_read clock at samples known =
    cond_both (nat_lt at clock.last) (Err _) (answer_by clock at clock.best) (λ r. IfOk r (λ _. HasFresh clock.oldest at samples)) (λ _. tt)
    (λ _. fresh_by clock at clock.best samples known)

fresh : (drift : Drift) (oldest : ℕ) (past : Past) → IsFresh drift oldest oldest past
fresh drift oldest [] = tt
fresh drift oldest (EarlyRead reading ∷ past) = fresh drift oldest past
fresh drift oldest (TableRead moment ∷ past) = fresh drift oldest past
fresh drift oldest (Other ∷ past) = fresh drift oldest past
fresh drift oldest (Sampled at sample ∷ past) = fresh drift oldest past
fresh drift oldest (TaskRead at ∷ past) =
    let clock = clock_after drift oldest past in (
      subst (λ age. IfOk (read_answer clock at) (λ _. HasFresh age at (samples_of drift oldest past))) (same_oldest drift oldest past)
          (fresh_read clock at (samples_of drift oldest past) (newest_sent drift oldest past)),
      fresh drift oldest past,
    )

pub always_close : (drift : Drift) (oldest : ℕ) (past : Past) → SamplesAreAnswers past → IsClose drift oldest oldest past
always_close drift oldest past honest = close drift oldest oldest past honest (fresh drift oldest past)
