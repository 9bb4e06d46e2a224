-- What one reading more leaves of what is known of the readings so far.
use Rattle.std.proofs.Common.{◌≡◌, ℕ, ◌≤◌, Bool, true, false, List, [], ◌∷◌, ◌++◌, refl, arith}
use Rattle.std.specs.Prelude.{nat_lt, Option, Some, None, MatchOption, if◌then◌else◌}
use Rattle.std.specs.List.{AllByRecursion}
use Rattle.std.proofs.lemmas.Bool.Decides.{nat_tests}
use Rattle.machines.proofs.Every.{all_weaker}
use Rattle.job_calls.specs.declared.timing.Reading.{Reading}
use Rattle.job_calls.specs.declared.timing.Reading.TheVariants.{TableClock, TaskClock, NoClock}
use Rattle.cluster.specs.Timing.{IsNear, IsTimely}
use Rattle.cluster.specs.Timeliness.{least_after, IsLeast}

near_later : (skew low high : ℕ) (early : Reading) → low ≤ high → IsNear skew (TaskClock low) early → IsNear skew (TaskClock high) early
near_later skew low high (TableClock at) up h = omega (arith, up, h)
near_later skew low high (TaskClock at) up h = tt
near_later skew low high NoClock up h = tt

all_later : (skew low high : ℕ) (before : List Reading) → low ≤ high → AllByRecursion (IsNear skew (TaskClock low)) before
    → AllByRecursion (IsNear skew (TaskClock high)) before
all_later skew low high before up h = all_weaker (IsNear skew (TaskClock low)) (IsNear skew (TaskClock high)) before (λ early. near_later skew low high early up) h

pub least_of_none : (skew : ℕ) → IsLeast skew 0 []
least_of_none skew = record { timely = tt; bound = tt; lowest = λ at h. omega arith }

-- what stands for the least reading after one more
abbrev pub Known : ℕ → List Reading → Option ℕ → Type 0
Known skew before o = MatchOption o (IsTimely skew before → ⊥) (λ least. IsLeast skew least before)

module _ (skew least : ℕ) (before : List Reading) (h : IsLeast skew least before) where
  by_task : (at : ℕ) (late : Bool) → nat_lt at least ≡ late → Known skew (TaskClock at ∷ before) (if late then None else Some least)
  by_task at true is = λ timely. let low = h.lowest at timely.0 in absurd (grind (arith, nat_tests))
  by_task at false is = let up : least ≤ at = grind (arith, nat_tests) in record {
    timely = (all_later skew least at before up h.bound, h.timely);
    bound = (tt, h.bound);
    lowest = λ other all. h.lowest other all.1;
  }

  pub least_more : (reading : Reading) → Known skew (reading ∷ before) (least_after reading skew least)
  least_more (TaskClock at) = by_task at (nat_lt at least) refl
  least_more (TableClock at) = record {
    timely = (all_weaker (IsNear skew (TaskClock least)) (IsNear skew (TableClock at)) before (λ early near. tt) h.bound, h.timely);
    bound = (omega arith, all_later skew least _ before (omega arith) h.bound);
    lowest = λ other all. let head = all.0 in let rest = h.lowest other all.1 in omega (arith, head, rest);
  }
  least_more NoClock = record {
    timely = (all_weaker (IsNear skew (TaskClock least)) (IsNear skew NoClock) before (λ early near. tt) h.bound, h.timely);
    bound = (tt, h.bound);
    lowest = λ other all. h.lowest other all.1;
  }

-- readings that were not timely do not become so
pub untimely_more : (skew : ℕ) (before : List Reading) (reading : Reading) → (IsTimely skew before → ⊥) → IsTimely skew (reading ∷ before) → ⊥
untimely_more skew before reading late timely = late timely.1

-- what is timely was timely before the last readings
pub timely_before : (skew : ℕ) (later before : List Reading) → IsTimely skew (later ++ before) → IsTimely skew before
timely_before skew [] before h = h
timely_before skew (reading ∷ later) before h = timely_before skew later before h.1
