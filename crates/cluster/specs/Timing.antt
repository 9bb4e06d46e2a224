-- Whether clocks were timely.
use Rattle.std.specs.Prelude.{ℕ, ◌+◌, ◌≤◌, max, List, [], ◌∷◌, ⊤}
use Rattle.std.specs.List.{AllByRecursion}
use Rattle.job_calls.specs.declared.timing.Reading.{Reading}
use Rattle.job_calls.specs.declared.timing.Reading.TheVariants.{TableClock, TaskClock}

-- the table's clock at an earlier reading is by at most the skew above a task's at a later one
abbrev pub IsNear : ℕ → Reading → Reading → Type 0
IsNear skew (TaskClock late) (TableClock early) = early ≤ late + skew
IsNear skew _ _ = ⊤

-- readings, newest first, are timely when each is near to each earlier one
abbrev pub IsTimely : ℕ → List Reading → Type 0
IsTimely skew [] = ⊤
IsTimely skew (late ∷ before) = AllByRecursion (IsNear skew late) before × IsTimely skew before

-- the greatest reading of the table's clock, 0 if there is none
abbrev pub greater_reading : Reading → ℕ → ℕ
greater_reading (TableClock at) greatest = max at greatest
greater_reading _ greatest = greatest

abbrev pub greatest_reading : List Reading → ℕ
greatest_reading [] = 0
greatest_reading (reading ∷ before) = greater_reading reading (greatest_reading before)
