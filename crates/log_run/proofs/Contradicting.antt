-- Clocks that keep a drift give no wrong sample.
use Rattle.std.proofs.Common.{◌≡◌, ℕ, ◌≤◌, Bool, true, false, [], ◌∷◌, inl, inr, ⊎_elim, refl, arith}
use Rattle.std.specs.Prelude.{Option, Some, None, Result, Ok, Err, IfOk, nat_lt, if◌then◌else◌}
use Rattle.std.specs.List.{AllByRecursion}
use Rattle.std.proofs.lemmas.Bool.Decides.{nat_tests}
use Rattle.clocks.specs.declared.drift.Drift.{Drift}
use Rattle.clocks.specs.declared.refusal.ClockRefusal.{ClockRefusal}
use Rattle.clocks.specs.declared.refusal.ClockRefusal.TheVariants.{LocalClockBack, SentAhead, NoSample, TooOld, TooLarge, NotYet}
use Rattle.clocks.specs.declared.task_clock.Sample.{Sample}
use Rattle.clocks.specs.declared.task_clock.TaskClock.{TaskClock}
use Rattle.clocks.specs.Pasts.{Event, EarlyRead, TableRead, Sampled, TaskRead, Other, Past, KeepsDrift, SamplesAreAnswers, WasAnswered, IsAtMost, IsWithinDrift}
use Rattle.clocks.specs.TaskClocks.{after_sample, answer_by, read_answer}
use Rattle.clocks.specs.Timely.{clock_after}
use Rattle.log_line.specs.declared.line.TaskSample.{TaskSample}
use Rattle.log_run.specs.Drifts.{fault_by, samples_in}

-- what happened, without what the task read
abbrev pub unread : Past → Past
unread [] = []
unread (EarlyRead reading ∷ past) = EarlyRead reading ∷ unread past
unread (TableRead moment ∷ past) = TableRead moment ∷ unread past
unread (Sampled now sample ∷ past) = Sampled now sample ∷ unread past
unread (TaskRead at ∷ past) = unread past
unread (Other ∷ past) = unread past

pub all_unread : (P : Event → Type 0) (past : Past) → AllByRecursion P past → AllByRecursion P (unread past)
all_unread P [] all = all
all_unread P (EarlyRead reading ∷ past) all = (all.0, all_unread P past all.1)
all_unread P (TableRead moment ∷ past) all = (all.0, all_unread P past all.1)
all_unread P (Sampled now sample ∷ past) all = (all.0, all_unread P past all.1)
all_unread P (TaskRead at ∷ past) all = all_unread P past all.1
all_unread P (Other ∷ past) all = all_unread P past all.1

pub keeps_unread : (drift : Drift) (past : Past) → KeepsDrift drift past → KeepsDrift drift (unread past)
keeps_unread drift [] keeps = keeps
keeps_unread drift (EarlyRead reading ∷ past) keeps = (all_unread (IsWithinDrift drift (EarlyRead reading)) past keeps.0, keeps_unread drift past keeps.1)
keeps_unread drift (TableRead moment ∷ past) keeps = (all_unread (IsWithinDrift drift (TableRead moment)) past keeps.0, keeps_unread drift past keeps.1)
keeps_unread drift (Sampled now sample ∷ past) keeps = (all_unread (IsWithinDrift drift (Sampled now sample)) past keeps.0, keeps_unread drift past keeps.1)
keeps_unread drift (TaskRead at ∷ past) keeps = keeps_unread drift past keeps.1
keeps_unread drift (Other ∷ past) keeps = keeps_unread drift past keeps.1

pub answered_unread : (sample : Sample) (past : Past) → WasAnswered sample past → WasAnswered sample (unread past)
answered_unread sample [] was = was
answered_unread sample (EarlyRead reading ∷ past) was = ⊎_elim (λ e. inl e) (λ w. inr (answered_unread sample past w)) was
answered_unread sample (TableRead moment ∷ past) was = ⊎_elim (λ e. inl e) (λ w. inr (answered_unread sample past w)) was
answered_unread sample (Sampled now other ∷ past) was = ⊎_elim (λ e. inl e) (λ w. inr (answered_unread sample past w)) was
answered_unread sample (TaskRead at ∷ past) was = ⊎_elim (λ e. absurd e) (λ w. answered_unread sample past w) was
answered_unread sample (Other ∷ past) was = ⊎_elim (λ e. absurd e) (λ w. answered_unread sample past w) was

pub answers_unread : (past : Past) → SamplesAreAnswers past → SamplesAreAnswers (unread past)
answers_unread [] are = are
answers_unread (EarlyRead reading ∷ past) are = answers_unread past are
answers_unread (TableRead moment ∷ past) are = answers_unread past are
answers_unread (Sampled now sample ∷ past) are = (answered_unread sample past are.0, answers_unread past are.1)
answers_unread (TaskRead at ∷ past) are = answers_unread past are
answers_unread (Other ∷ past) are = answers_unread past are

pub clock_unread : (drift : Drift) (oldest : ℕ) (past : Past) → clock_after drift oldest (unread past) ≡ clock_after drift oldest (samples_in past)
clock_unread drift oldest [] = refl
clock_unread drift oldest (EarlyRead reading ∷ past) = clock_unread drift oldest past
clock_unread drift oldest (TableRead moment ∷ past) = clock_unread drift oldest past
clock_unread drift oldest (Sampled now sample ∷ past) = rw (clock_unread drift oldest past) refl
clock_unread drift oldest (TaskRead at ∷ past) = clock_unread drift oldest past
clock_unread drift oldest (Other ∷ past) = clock_unread drift oldest past

-- what a task reads at the reading of a sample keeps the drift too
pub reads_within : (drift : Drift) (now : ℕ) (sample : Sample) (past : Past) → AllByRecursion (IsWithinDrift drift (Sampled now sample)) past
    → AllByRecursion (IsWithinDrift drift (TaskRead now)) past
reads_within drift now sample [] all = all
reads_within drift now sample (EarlyRead reading ∷ past) all = (record { local = all.0.local; readings = tt }, reads_within drift now sample past all.1)
reads_within drift now sample (TableRead moment ∷ past) all = (record { local = all.0.local; readings = tt }, reads_within drift now sample past all.1)
reads_within drift now sample (Sampled at other ∷ past) all = (record { local = all.0.local; readings = tt }, reads_within drift now sample past all.1)
reads_within drift now sample (TaskRead at ∷ past) all = (record { local = all.0.local; readings = tt }, reads_within drift now sample past all.1)
reads_within drift now sample (Other ∷ past) all = (record { local = all.0.local; readings = tt }, reads_within drift now sample past all.1)

-- a sample was sent before its answer is taken
pub sent_before : (drift : Drift) (now : ℕ) (sample taken : Sample) (past : Past) → AllByRecursion (IsWithinDrift drift (Sampled now sample)) past
    → WasAnswered taken past → taken.sent ≤ now
sent_before drift now sample taken [] all was = absurd was
sent_before drift now sample taken (EarlyRead reading ∷ past) all was = ⊎_elim (λ e. absurd e) (λ w. sent_before drift now sample taken past all.1 w) was
sent_before drift now sample taken (TableRead moment ∷ past) all was =
    ⊎_elim (λ e. let before = e.1 in let after = all.0.local in omega (arith, before, after)) (λ w. sent_before drift now sample taken past all.1 w) was
sent_before drift now sample taken (Sampled at other ∷ past) all was = ⊎_elim (λ e. absurd e) (λ w. sent_before drift now sample taken past all.1 w) was
sent_before drift now sample taken (TaskRead at ∷ past) all was = ⊎_elim (λ e. absurd e) (λ w. sent_before drift now sample taken past all.1 w) was
sent_before drift now sample taken (Other ∷ past) all was = ⊎_elim (λ e. absurd e) (λ w. sent_before drift now sample taken past all.1 w) was

-- a value that is at or above each reading of the table is at or above that of a sample
pub reading_below : (value : ℕ) (taken : Sample) (past : Past) → AllByRecursion (IsAtMost value) past → WasAnswered taken past → taken.reading ≤ value
reading_below value taken [] all was = absurd was
reading_below value taken (EarlyRead reading ∷ past) all was = ⊎_elim (λ e. absurd e) (λ w. reading_below value taken past all.1 w) was
reading_below value taken (TableRead moment ∷ past) all was =
    ⊎_elim (λ e. let is = e.0 in let below = all.0 in omega (arith, is, below)) (λ w. reading_below value taken past all.1 w) was
reading_below value taken (Sampled at other ∷ past) all was = ⊎_elim (λ e. absurd e) (λ w. reading_below value taken past all.1 w) was
reading_below value taken (TaskRead at ∷ past) all was = ⊎_elim (λ e. absurd e) (λ w. reading_below value taken past all.1 w) was
reading_below value taken (Other ∷ past) all was = ⊎_elim (λ e. absurd e) (λ w. reading_below value taken past all.1 w) was

-- a clock's last reading is that of a sample that it took
last_after : (now at : ℕ) (clock : TaskClock) (sample : Sample) (answer : Result (Unit {0}) ClockRefusal) → at ≤ now → clock.last ≤ now
    → (after_sample clock at sample answer).last ≤ now
last_after now at clock sample (Ok done) here before = here
last_after now at clock sample (Err why) here before = before

pub last_before : (drift : Drift) (oldest now : ℕ) (sample : Sample) (past : Past) → AllByRecursion (IsWithinDrift drift (Sampled now sample)) past
    → (clock_after drift oldest (samples_in past)).last ≤ now
last_before drift oldest now sample [] all = omega arith
last_before drift oldest now sample (EarlyRead reading ∷ past) all = last_before drift oldest now sample past all.1
last_before drift oldest now sample (TableRead moment ∷ past) all = last_before drift oldest now sample past all.1
last_before drift oldest now sample (Sampled at other ∷ past) all =
    last_after now at (clock_after drift oldest (samples_in past)) other _ all.0.local (last_before drift oldest now sample past all.1)
last_before drift oldest now sample (TaskRead at ∷ past) all = last_before drift oldest now sample past all.1
last_before drift oldest now sample (Other ∷ past) all = last_before drift oldest now sample past all.1

-- an answer is no refusal of a local reading unless that is below the last
no_back : (old fits : Bool) (value : ℕ) → (if old then Err TooOld else if fits then Ok value else Err TooLarge) ≡ Err LocalClockBack → ⊥
no_back true fits value e = cc
no_back false true value e = cc
no_back false false value e = cc

answers_no_back : (clock : TaskClock) (now : ℕ) (best : Option Sample) → answer_by clock now best ≡ Err LocalClockBack → ⊥
answers_no_back clock now None e = cc
answers_no_back clock now (Some sample) e = no_back _ _ _ e

reads_no_back : (clock : TaskClock) (now : ℕ) (b : Bool) → b ≡ false → (if b then Err LocalClockBack else answer_by clock now clock.best) ≡ Err LocalClockBack → ⊥
reads_no_back clock now true is e = cc
reads_no_back clock now false is e = answers_no_back clock now clock.best e

not_less : (a b : ℕ) → b ≤ a → nat_lt a b ≡ false
not_less a b le = grind (arith, nat_tests)

pub not_back : (clock : TaskClock) (now : ℕ) → clock.last ≤ now → read_answer clock now ≡ Err LocalClockBack → ⊥
not_back clock now le e = reads_no_back clock now (nat_lt now clock.last) (not_less now clock.last le) e

-- what is not wrong
pub no_fault : (taken : TaskSample) (answer : Result ℕ ClockRefusal) → taken.sample.sent ≤ taken.now → (answer ≡ Err LocalClockBack → ⊥)
    → IfOk answer (λ most. taken.sample.reading ≤ most) → fault_by taken answer ≡ None
no_fault taken (Ok most) sent back below = rw (not_less taken.now taken.sample.sent sent, not_less most taken.sample.reading below) refl
no_fault taken (Err LocalClockBack) sent back below = absurd (back refl)
no_fault taken (Err SentAhead) sent back below = rw (not_less taken.now taken.sample.sent sent) refl
no_fault taken (Err NoSample) sent back below = rw (not_less taken.now taken.sample.sent sent) refl
no_fault taken (Err TooOld) sent back below = rw (not_less taken.now taken.sample.sent sent) refl
no_fault taken (Err TooLarge) sent back below = rw (not_less taken.now taken.sample.sent sent) refl
no_fault taken (Err (NotYet until)) sent back below = rw (not_less taken.now taken.sample.sent sent) refl

pub below_all : (answer : Result ℕ ClockRefusal) (taken : Sample) (past : Past) → IfOk answer (λ value. AllByRecursion (IsAtMost value) past) → WasAnswered taken past
    → IfOk answer (λ most. taken.reading ≤ most)
below_all (Ok value) taken past all was = reading_below value taken past all was
below_all (Err why) taken past all was = all
