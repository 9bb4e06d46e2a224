-- A job whose clocks drift is timely.
use Rattle.std.proofs.Common.{◌≡◌, ℕ, ◌≤◌, [], ◌∷◌, List, inl, inr, nat_eq, Result, Ok, Err, IfOk, arith, subst, sym, refl, Option, Some, None}
use Rattle.std.proofs.lemmas.Bool.{cond-true, eq-eqb}
use Rattle.std.specs.List.{AllByRecursion}
use Rattle.clocks.specs.declared.drift.Drift.{Drift}
use Rattle.clocks.specs.declared.refusal.ClockRefusal.{ClockRefusal}
use Rattle.clocks.specs.TaskClocks.{read_answer}
use Rattle.clocks.specs.Pasts.{Event, EarlyRead, TableRead, Sampled, TaskRead, Other, Past, table_seen, KeepsDrift, SamplesAreAnswers, IsAtMost}
use Rattle.clocks.specs.Timely.{clock_after, IsTimely as IsTimelyTask}
use Rattle.job_calls.specs.declared.timing.Reading.{Reading}
use Rattle.job_calls.specs.declared.timing.Reading.TheVariants.{TableClock, TaskClock, NoClock}
use Rattle.cluster.specs.Timing.{IsNear, IsTimely}
use Rattle.job_clocks.specs.JobPasts.{JobEvent, TableReads, LifeSamples, LifeReads, JobPast, seen_by, past_of, KeepsJobDrift, with_answer, readings_of}
use Rattle.job_clocks.specs.Within.{clocked, HaveInOrder, AreWithinDrift}

-- a reading of no task is near to all
table_near : (skew at : ℕ) (readings : List Reading) → AllByRecursion (IsNear skew (TableClock at)) readings
table_near skew at [] = tt
table_near skew at (reading ∷ readings) = (tt, table_near skew at readings)

none_near : (skew : ℕ) (readings : List Reading) → AllByRecursion (IsNear skew NoClock) readings
none_near skew [] = tt
none_near skew (reading ∷ readings) = (tt, none_near skew readings)

-- what is at or above each reading of the table is near to it
table_below : (value reading : ℕ) (local : Option ℕ) → IsAtMost value (table_seen reading local) → reading ≤ value
table_below value reading None below = below
table_below value reading (Some at) below = below

also_near : (skew value : ℕ) (answer : Result ℕ ClockRefusal) (readings : List Reading) → AllByRecursion (IsNear skew (TaskClock value)) readings
    → AllByRecursion (IsNear skew (TaskClock value)) (with_answer answer readings)
also_near skew value (Ok other) readings near = (tt, near)
also_near skew value (Err why) readings near = near

near : (drift : ℕ → Drift) (oldest : ℕ → ℕ) (skew value life : ℕ) (past : JobPast) → AllByRecursion (IsAtMost value) (past_of life past)
    → AllByRecursion (IsNear skew (TaskClock value)) (readings_of drift oldest past)
near drift oldest skew value life [] below = tt
near drift oldest skew value life (TableReads reading locals ∷ past) below =
    (omega (arith, table_below value reading (locals life) below.0), near drift oldest skew value life past below.1)
near drift oldest skew value life (LifeSamples who at sample ∷ past) below = near drift oldest skew value life past below.1
near drift oldest skew value life (LifeReads who at ∷ past) below =
    also_near skew value (read_answer (clock_after (drift who) (oldest who) (past_of who past)) at) (readings_of drift oldest past) (near drift oldest skew value life past below.1)

-- what a task's clock answers is near to each reading before it
answered_timely : (drift : ℕ → Drift) (oldest : ℕ → ℕ) (skew life : ℕ) (answer : Result ℕ ClockRefusal) (past : JobPast)
    → IfOk answer (λ value. AllByRecursion (IsAtMost value) (past_of life past)) → IsTimely skew (readings_of drift oldest past)
    → IsTimely skew (with_answer answer (readings_of drift oldest past))
answered_timely drift oldest skew life (Ok value) past below timely = (near drift oldest skew value life past below, timely)
answered_timely drift oldest skew life (Err why) past below timely = timely

-- a life sees its own reading
sees : (life at : ℕ) → seen_by life (LifeReads life at) ≡ TaskRead at
sees life at = cond-true (nat_eq life life) (TaskRead at) Other (eq-eqb life life refl)

honest_before : (event : Event) (past : Past) → SamplesAreAnswers (event ∷ past) → SamplesAreAnswers past
honest_before (EarlyRead reading) past honest = honest
honest_before (TableRead moment) past honest = honest
honest_before (Sampled at sample) past honest = honest.1
honest_before (TaskRead at) past honest = honest
honest_before Other past honest = honest

before : (drift : ℕ → Drift) (event : JobEvent) (past : JobPast) → KeepsJobDrift drift (event ∷ past) → KeepsJobDrift drift past
before drift event past is = record {
  paced = λ life. (is.paced life).1;
  honest = λ life. honest_before (seen_by life event) (past_of life past) (is.honest life);
}

timely : ((drift : Drift) (oldest : ℕ) (past : Past) → KeepsDrift drift past → SamplesAreAnswers past → IsTimelyTask drift oldest past) → (drift : ℕ → Drift) (oldest : ℕ → ℕ) (skew : ℕ) (past : JobPast)
    → KeepsJobDrift drift past → IsTimely skew (readings_of drift oldest past)
timely law drift oldest skew [] is = tt
timely law drift oldest skew (TableReads reading locals ∷ past) is =
    (table_near skew reading (readings_of drift oldest past), timely law drift oldest skew past (before drift (TableReads reading locals) past is))
timely law drift oldest skew (LifeSamples who at sample ∷ past) is = timely law drift oldest skew past (before drift (LifeSamples who at sample) past is)
timely law drift oldest skew (LifeReads who at ∷ past) is =
    let answer = read_answer (clock_after (drift who) (oldest who) (past_of who past)) at in
    let own = subst (λ event. IsTimelyTask (drift who) (oldest who) (event ∷ past_of who past)) (sees who at)
    (law (drift who) (oldest who) (seen_by who (LifeReads who at) ∷ past_of who past) (is.paced who) (is.honest who)) in
    answered_timely drift oldest skew who answer past own.0 (timely law drift oldest skew past (before drift (LifeReads who at) past is))

-- READINGS OF NO CLOCK

none_matters : (skew : ℕ) (late : Reading) → IsNear skew late NoClock
none_matters skew NoClock = tt
none_matters skew (TableClock at) = tt
none_matters skew (TaskClock at) = tt

all_near : (skew : ℕ) (late : Reading) (readings : List Reading) → AllByRecursion (IsNear skew late) (clocked readings) → AllByRecursion (IsNear skew late) readings
all_near skew late [] near = tt
all_near skew late (NoClock ∷ readings) near = (none_matters skew late, all_near skew late readings near)
all_near skew late (TableClock at ∷ readings) near = (near.0, all_near skew late readings near.1)
all_near skew late (TaskClock at ∷ readings) near = (near.0, all_near skew late readings near.1)

all_timely : (skew : ℕ) (readings : List Reading) → IsTimely skew (clocked readings) → IsTimely skew readings
all_timely skew [] timely = tt
all_timely skew (NoClock ∷ readings) timely = (none_near skew readings, all_timely skew readings timely)
all_timely skew (TableClock at ∷ readings) timely = (all_near skew (TableClock at) readings timely.0, all_timely skew readings timely.1)
all_timely skew (TaskClock at ∷ readings) timely = (all_near skew (TaskClock at) readings timely.0, all_timely skew readings timely.1)

-- SOME OF THE READINGS

some_near : (skew : ℕ) (late : Reading) (all some : List Reading) → AllByRecursion (IsNear skew late) all → HaveInOrder all some → AllByRecursion (IsNear skew late) some
some_near skew late [] some near none = subst (AllByRecursion (IsNear skew late)) (sym none) tt
some_near skew late (reading ∷ all) some near (inl skipped) = some_near skew late all some near.1 skipped
some_near skew late (reading ∷ all) [] near (inr here) = absurd here
some_near skew late (reading ∷ all) (first ∷ rest) near (inr here) =
    (subst (IsNear skew late) (sym here.0) near.0, some_near skew late all rest near.1 here.1)

some_timely : (skew : ℕ) (all some : List Reading) → IsTimely skew all → HaveInOrder all some → IsTimely skew some
some_timely skew [] some timely none = subst (IsTimely skew) (sym none) tt
some_timely skew (reading ∷ all) some timely (inl skipped) = some_timely skew all some timely.1 skipped
some_timely skew (reading ∷ all) [] timely (inr here) = absurd here
some_timely skew (reading ∷ all) (first ∷ rest) timely (inr here) = (
  some_near skew first all rest (subst (λ late. AllByRecursion (IsNear skew late) all) (sym here.0) timely.0) here.1,
  some_timely skew all rest timely.1 here.1,
)

pub timely_job : ((drift : Drift) (oldest : ℕ) (past : Past) → KeepsDrift drift past → SamplesAreAnswers past → IsTimelyTask drift oldest past)
    → (drift : ℕ → Drift) (skew : ℕ) (readings : List Reading) → AreWithinDrift drift readings → IsTimely skew readings
timely_job law drift skew readings are =
    all_timely skew readings (some_timely skew (readings_of drift are.oldest are.clocks) (clocked readings)
    (timely law drift are.oldest skew are.clocks are.keeps) are.read)
