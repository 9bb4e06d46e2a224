-- Whether readings so far are timely, and from which reading of a task's clock on they stay so.
use Rattle.std.specs.Prelude.{◌≡◌, ℕ, ◌-◌, ◌≤◌, max, nat_lt, List, Option, Some, None, MatchOption, if◌then◌else◌}
use Rattle.std.specs.List.{AllByRecursion}
use Rattle.job_calls.specs.declared.timing.Reading.{Reading}
use Rattle.job_calls.specs.declared.timing.Reading.TheVariants.{TableClock, TaskClock, NoClock}
use Rattle.cluster.specs.declared.timeliness.Timeliness.{Timeliness}
use Rattle.cluster.specs.Timing.{IsNear, IsTimely}

-- the least timely reading of a task's clock after one more reading, where that one is timely itself
abbrev pub least_after : Reading → ℕ → ℕ → Option ℕ
least_after (TableClock at) skew least = Some (max least (at - skew))
least_after (TaskClock at) skew least = if nat_lt at least then None else Some least
least_after NoClock skew least = Some least

-- the readings are timely, and a task's clock may be read next exactly from this reading on
pub record IsLeast (skew least : ℕ) (before : List Reading) : Type 0 where
  pub timely : IsTimely skew before
  pub bound : AllByRecursion (IsNear skew (TaskClock least)) before
  pub lowest : (at : ℕ) → AllByRecursion (IsNear skew (TaskClock at)) before → least ≤ at

-- what is known after these readings, newest first
pub record IsTimelinessOf (skew : ℕ) (before : List Reading) (timeliness : Timeliness) : Type 0 where
  pub same : timeliness.skew ≡ skew
  pub found : MatchOption timeliness.least (IsTimely skew before → ⊥) (λ least. IsLeast skew least before)
