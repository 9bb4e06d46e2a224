-- A reading that is near to the greatest reading of the table's clock is near to each.
use Rattle.std.proofs.Common.{ℕ, ◌+◌, ◌≤◌, List, [], ◌∷◌, arith}
use Rattle.std.specs.Prelude.{max}
use Rattle.std.specs.List.{AllByRecursion}
use Rattle.job_calls.specs.declared.timing.Reading.{Reading}
use Rattle.job_calls.specs.declared.timing.Reading.TheVariants.{TableClock, TaskClock, NoClock}
use Rattle.cluster.specs.Timing.{IsNear, greatest_reading}

pub all_near : (skew late : ℕ) (before : List Reading) → greatest_reading before ≤ late + skew → AllByRecursion (IsNear skew (TaskClock late)) before
all_near skew late [] l = tt
all_near skew late (TableClock at ∷ before) l =
    let a : at ≤ max at (greatest_reading before) = omega arith in
    let b : greatest_reading before ≤ max at (greatest_reading before) = omega arith in
    (omega (arith, a, l), all_near skew late before (omega (arith, b, l)))
all_near skew late (TaskClock at ∷ before) l = (tt, all_near skew late before l)
all_near skew late (NoClock ∷ before) l = (tt, all_near skew late before l)
