-- The kept sample says least, and answers never fall.
use Rattle.std.proofs.Common.{◌≡◌, ℕ, ◌+◌, ◌-◌, ◌^◌, ◌<◌, ◌≤◌, Bool, true, false, max, [], ◌∷◌, List, Option, Some, None, MatchOption, Result, Ok, Err, IfOk, nat_lt, nat_le, arith, subst, sym, ap, refl}
use Rattle.std.specs.Bool.{MatchBool}
use Rattle.std.specs.List.{AllByRecursion, Contains}
use Rattle.std.proofs.lemmas.Bool.{cond_both, ltb-true, ltb-false, leb-true, leb-false, MatchBool-at_true, MatchBool-at_false}
use Rattle.std.proofs.lemmas.List.Elements.{Contains-push, Contains-append_left, Contains-append_right}
use Rattle.clocks.specs.declared.drift.Drift.{Drift}
use Rattle.clocks.specs.declared.refusal.ClockRefusal.{ClockRefusal}
use Rattle.clocks.specs.declared.task_clock.Sample.{Sample}
use Rattle.clocks.specs.declared.task_clock.TaskClock.{TaskClock}
use Rattle.clocks.specs.Drifts.{most_gain}
use Rattle.clocks.specs.TaskClocks.{reach, is_better, better_of, sample_answer, after_sample, answer_by, read_answer, after_read}
use Rattle.clocks.specs.Pasts.{EarlyRead, TableRead, Sampled, TaskRead, Other, Past}
use Rattle.clocks.specs.Timely.{clock_after, with_answer, values_of, with_sample, samples_of, IsRising, SaysLess, IsBest}
use Rattle.clocks.proofs.Stretching as stretched
use Rattle.clocks.proofs.Bounding.{same_drift}

-- WHICH OF TWO SAMPLES SAYS LESS

under : (drift : Drift) (one two : Sample) (at : ℕ) → one.sent ≤ two.sent → two.sent ≤ at → reach drift one two.sent ≤ two.reading
    → reach drift one at ≤ reach drift two at
under drift one two at order sent low =
    let parts : at - one.sent ≡ (two.sent - one.sent) + (at - two.sent) = omega (arith, order, sent) in
    let same : most_gain drift (at - one.sent) ≡ most_gain drift ((two.sent - one.sent) + (at - two.sent)) = ap (most_gain drift) parts in
    let sum = stretched.of_sum drift (two.sent - one.sent) (at - two.sent) in
    omega (arith, low, same, sum)

over : (drift : Drift) (one two : Sample) (at : ℕ) → one.sent ≤ two.sent → two.sent ≤ at → two.reading < reach drift one two.sent
    → reach drift two at ≤ reach drift one at
over drift one two at order sent high =
    let parts : at - one.sent ≡ (two.sent - one.sent) + (at - two.sent) = omega (arith, order, sent) in
    let same : most_gain drift (at - one.sent) ≡ most_gain drift ((two.sent - one.sent) + (at - two.sent)) = ap (most_gain drift) parts in
    let sum = stretched.in_sum drift (two.sent - one.sent) (at - two.sent) in
    omega (arith, high, same, sum)

by_test : (b : Bool) (P Q : Type 0) → (b ≡ true → P) → (b ≡ false → Q) → MatchBool b P Q
by_test true P Q on_true on_false = on_true refl
by_test false P Q on_true on_false = on_false refl

lower : (drift : Drift) (old new : Sample) (at : ℕ) → old.sent ≤ at → new.sent ≤ at
    → MatchBool (is_better drift old new) (reach drift old at ≤ reach drift new at) (reach drift new at ≤ reach drift old at)
lower drift old new at old_sent new_sent =
    let P : Bool → Type 0 = λ b. MatchBool b (reach drift old at ≤ reach drift new at) (reach drift new at ≤ reach drift old at) in
    cond_both (nat_le old.sent new.sent) (nat_le (reach drift old new.sent) new.reading) (nat_lt old.reading (reach drift new old.sent)) P
    (λ order. by_test (nat_le (reach drift old new.sent) new.reading) _ _
    (λ low. under drift old new at (leb-true old.sent new.sent order) new_sent (leb-true _ _ low))
    (λ high. over drift old new at (leb-true old.sent new.sent order) new_sent (leb-false _ _ high)))
    (λ order. by_test (nat_lt old.reading (reach drift new old.sent)) _ _
    (λ high. over drift new old at (omega (arith, leb-false old.sent new.sent order)) old_sent (ltb-true _ _ high))
    (λ low. under drift new old at (omega (arith, leb-false old.sent new.sent order)) old_sent (ltb-false _ _ low)))

-- what the test says at a local reading
said_low : (drift : Drift) (old new : Sample) (at : ℕ) → is_better drift old new ≡ true → old.sent ≤ at → new.sent ≤ at → reach drift old at ≤ reach drift new at
said_low drift old new at low old_sent new_sent =
    MatchBool-at_true (reach drift old at ≤ reach drift new at) (reach drift new at ≤ reach drift old at) low (lower drift old new at old_sent new_sent)

said_high : (drift : Drift) (old new : Sample) (at : ℕ) → is_better drift old new ≡ false → old.sent ≤ at → new.sent ≤ at → reach drift new at ≤ reach drift old at
said_high drift old new at high old_sent new_sent =
    MatchBool-at_false (reach drift old at ≤ reach drift new at) (reach drift new at ≤ reach drift old at) high (lower drift old new at old_sent new_sent)

-- THE KEPT SAMPLE

-- what is known of a sample that is kept after these
pub record IsLeast (drift : Drift) (last : ℕ) (kept : Sample) (samples : List Sample) : Type 0 where
  pub taken : Contains samples kept
  pub least : AllByRecursion (SaysLess drift last kept) samples
  pub sent : kept.sent ≤ last

abbrev pub IsKept : Drift → ℕ → Option Sample → List Sample → Type 0
IsKept drift last kept samples = MatchOption kept (samples ≡ []) (λ k. IsLeast drift last k samples)

-- from a later reading on, and beside a sample that says less
later : (drift : Drift) (last now : ℕ) (one two : Sample) (samples : List Sample) → last ≤ now → SaysLess drift now two one
    → AllByRecursion (SaysLess drift last one) samples → AllByRecursion (SaysLess drift now two) samples
later drift last now one two [] order less all = tt
later drift last now one two (sample ∷ samples) order less all =
    ((λ at low. omega (arith, less at low, all.0 at (omega (arith, order, low)))), later drift last now one two samples order less all.1)

same : (drift : Drift) (now : ℕ) (one : Sample) → SaysLess drift now one one
same drift now one = λ at low. omega arith

-- after one sample more
taken_here : (drift : Drift) (now : ℕ) (old new : Sample) (samples : List Sample) → new.sent ≤ now → AllByRecursion (SaysLess drift now new) samples
    → IsLeast drift now new (new ∷ samples)
taken_here drift now old new samples sent least =
    record { taken = Contains-append_left (new ∷ []) samples new (Contains-push [] new); least = (same drift now new, least); sent = sent }

one_more : (drift : Drift) (last now : ℕ) (old new : Sample) (samples : List Sample) → last ≤ now → new.sent ≤ now → IsLeast drift last old samples
    → IsLeast drift now (better_of drift (Some old) new) (new ∷ samples)
one_more drift last now old new samples order sent known =
    let P : Sample → Type 0 = λ s. IsLeast drift now s (new ∷ samples) in
    let earlier : old.sent ≤ now = omega (arith, known.sent, order) in
    cond_both (is_better drift old new) old new P
    (λ low. record {
      taken = Contains-append_right (new ∷ []) samples old known.taken;
      least = (
        (λ at late. said_low drift old new at low (omega (arith, earlier, late)) (omega (arith, sent, late))),
        later drift last now old old samples order (same drift now old) known.least,
      );
      sent = earlier;
    })
    (λ high. taken_here drift now old new samples sent
    (later drift last now old new samples order (λ at late. said_high drift old new at high (omega (arith, earlier, late)) (omega (arith, sent, late))) known.least))

first : (drift : Drift) (now : ℕ) (new : Sample) (samples : List Sample) → new.sent ≤ now → samples ≡ [] → IsLeast drift now new (new ∷ samples)
first drift now new samples sent none =
    let P : List Sample → Type 0 = λ ss. IsLeast drift now new (new ∷ ss) in
    subst P (sym none) (record { taken = Contains-push [] new; least = (same drift now new, tt); sent = sent })

better : (drift : Drift) (last now : ℕ) (kept : Option Sample) (new : Sample) (samples : List Sample) → last ≤ now → new.sent ≤ now → IsKept drift last kept samples
    → IsLeast drift now (better_of drift kept new) (new ∷ samples)
better drift last now None new samples order sent known = first drift now new samples sent known
better drift last now (Some old) new samples order sent known = one_more drift last now old new samples order sent known

-- a sample or a reading that is taken is no earlier than the last
sample_order : (clock : TaskClock) (sent now : ℕ) → IfOk (sample_answer clock sent now) (λ _. (clock.last ≤ now) × (sent ≤ now))
sample_order clock sent now =
    let P : Result (Unit {0}) ClockRefusal → Type 0 = λ r. IfOk r (λ _. (clock.last ≤ now) × (sent ≤ now)) in
    cond_both (nat_lt now clock.last) (Err _) _ P (λ _. tt)
    (λ order. cond_both (nat_lt now sent) (Err _) (Ok tt) P (λ _. tt) (λ sent_first. (ltb-false _ _ order, ltb-false _ _ sent_first)))

sampled : (clock : TaskClock) (now : ℕ) (sample : Sample) (samples : List Sample) (answer : Result (Unit {0}) ClockRefusal)
    → IfOk answer (λ _. (clock.last ≤ now) × (sample.sent ≤ now)) → IsKept clock.drift clock.last clock.best samples
    → IsKept clock.drift (after_sample clock now sample answer).last (after_sample clock now sample answer).best (with_sample sample answer samples)
sampled clock now sample samples (Ok done) order known = better clock.drift clock.last now clock.best sample samples order.0 order.1 known
sampled clock now sample samples (Err why) order known = known

kept_later : (drift : Drift) (last now : ℕ) (kept : Option Sample) (samples : List Sample) → last ≤ now → IsKept drift last kept samples
    → IsKept drift now kept samples
kept_later drift last now None samples order known = known
kept_later drift last now (Some sample) samples order known = record {
  taken = known.taken;
  least = later drift last now sample sample samples order (same drift now sample) known.least;
  sent = omega (arith, known.sent, order);
}

-- what a reading answers: no less than before, and no earlier
kept_rises : (clock : TaskClock) (now : ℕ) (kept : Option Sample) → clock.last ≤ now → IfOk (answer_by clock now kept) (λ value. (clock.last ≤ now) × (clock.given ≤ value))
kept_rises clock now None order = tt
kept_rises clock now (Some sample) order =
    let bound = reach clock.drift sample now + clock.drift.grain in
    let P : Result ℕ ClockRefusal → Type 0 = λ r. IfOk r (λ value. (clock.last ≤ now) × (clock.given ≤ value)) in
    cond_both (nat_lt clock.oldest (now - clock.newest)) (Err _) _ P (λ _. tt)
    (λ _. cond_both (nat_lt bound (2 ^ 64)) (Ok (max clock.given bound)) (Err _) P (λ _. (order, omega arith)) (λ _. tt))

pub read_rises : (clock : TaskClock) (now : ℕ) → IfOk (read_answer clock now) (λ value. (clock.last ≤ now) × (clock.given ≤ value))
read_rises clock now =
    cond_both (nat_lt now clock.last) (Err _) (answer_by clock now clock.best) (λ r. IfOk r (λ value. (clock.last ≤ now) × (clock.given ≤ value)))
    (λ _. tt) (λ order. kept_rises clock now clock.best (ltb-false _ _ order))

read_kept : (clock : TaskClock) (now : ℕ) (samples : List Sample) (answer : Result ℕ ClockRefusal)
    → IfOk answer (λ value. (clock.last ≤ now) × (clock.given ≤ value)) → IsKept clock.drift clock.last clock.best samples
    → IsKept clock.drift (after_read clock now answer).last (after_read clock now answer).best samples
read_kept clock now samples (Ok value) rises known = kept_later clock.drift clock.last now clock.best samples rises.0 known
read_kept clock now samples (Err why) rises known = known

pub keeps : (drift : Drift) (oldest : ℕ) (past : Past) → IsKept drift (clock_after drift oldest past).last (clock_after drift oldest past).best (samples_of drift oldest past)
keeps drift oldest [] = refl
keeps drift oldest (TableRead moment ∷ past) = keeps drift oldest past
keeps drift oldest (EarlyRead reading ∷ past) = keeps drift oldest past
keeps drift oldest (Other ∷ past) = keeps drift oldest past
keeps drift oldest (Sampled at sample ∷ past) =
    let clock = clock_after drift oldest past in
    let answer = sample_answer clock sample.sent at in
    let after = after_sample clock at sample answer in
    subst (λ d. IsKept d after.last after.best (samples_of drift oldest (Sampled at sample ∷ past))) (same_drift drift oldest past)
    (sampled clock at sample (samples_of drift oldest past) answer (sample_order clock sample.sent at)
    (subst (λ d. IsKept d clock.last clock.best (samples_of drift oldest past)) (sym (same_drift drift oldest past)) (keeps drift oldest past)))
keeps drift oldest (TaskRead at ∷ past) =
    let clock = clock_after drift oldest past in
    let answer = read_answer clock at in
    let after = after_read clock at answer in
    subst (λ d. IsKept d after.last after.best (samples_of drift oldest past)) (same_drift drift oldest past)
    (read_kept clock at (samples_of drift oldest past) answer (read_rises clock at)
    (subst (λ d. IsKept d clock.last clock.best (samples_of drift oldest past)) (sym (same_drift drift oldest past)) (keeps drift oldest past)))

is_best : (drift : Drift) (last : ℕ) (kept : Option Sample) (samples : List Sample) → IsKept drift last kept samples
    → MatchOption kept (samples ≡ []) (λ k. Contains samples k × AllByRecursion (SaysLess drift last k) samples)
is_best drift last None samples known = known
is_best drift last (Some sample) samples known = (known.taken, known.least)

pub best : (drift : Drift) (oldest : ℕ) (past : Past) → IsBest drift (clock_after drift oldest past) (samples_of drift oldest past)
best drift oldest past = is_best drift (clock_after drift oldest past).last (clock_after drift oldest past).best (samples_of drift oldest past) (keeps drift oldest past)

-- ANSWERS NEVER FALL

-- values so far, and the last of them
record IsAbove (given : ℕ) (values : List ℕ) : Type 0 where
  pub rising : IsRising values
  pub below : AllByRecursion (λ early. early ≤ given) values

below_later : (given more : ℕ) (values : List ℕ) → given ≤ more → AllByRecursion (λ early. early ≤ given) values → AllByRecursion (λ early. early ≤ more) values
below_later given more [] order below = tt
below_later given more (value ∷ values) order below = (omega (arith, below.0, order), below_later given more values order below.1)

answered : (clock : TaskClock) (now : ℕ) (answer : Result ℕ ClockRefusal) (values : List ℕ) → IfOk answer (λ value. (clock.last ≤ now) × (clock.given ≤ value))
    → IsAbove clock.given values → IsAbove (after_read clock now answer).given (with_answer answer values)
answered clock now (Ok value) values rises known =
    let below = below_later clock.given value values rises.1 known.below in
    record { rising = (below, known.rising); below = (omega arith, below) }
answered clock now (Err why) values rises known = known

pub sample_given : (clock : TaskClock) (now : ℕ) (sample : Sample) (answer : Result (Unit {0}) ClockRefusal) → (after_sample clock now sample answer).given ≡ clock.given
sample_given clock now sample (Ok done) = refl
sample_given clock now sample (Err why) = refl

above : (drift : Drift) (oldest : ℕ) (past : Past) → IsAbove (clock_after drift oldest past).given (values_of drift oldest past)
above drift oldest [] = record { rising = tt; below = tt }
above drift oldest (TableRead moment ∷ past) = above drift oldest past
above drift oldest (EarlyRead reading ∷ past) = above drift oldest past
above drift oldest (Other ∷ past) = above drift oldest past
above drift oldest (Sampled at sample ∷ past) =
    let clock = clock_after drift oldest past in
    subst (λ given. IsAbove given (values_of drift oldest past)) (sym (sample_given clock at sample (sample_answer clock sample.sent at))) (above drift oldest past)
above drift oldest (TaskRead at ∷ past) =
    let clock = clock_after drift oldest past in
    answered clock at (read_answer clock at) (values_of drift oldest past) (read_rises clock at) (above drift oldest past)

pub rising : (drift : Drift) (oldest : ℕ) (past : Past) → IsRising (values_of drift oldest past)
rising drift oldest past = (above drift oldest past).rising
