-- Which readings of a task's clock are not timely.
use Rattle.std.specs.Prelude.{◌≡◌, ℕ, ◌+◌, ◌<◌, List}
use Rattle.job_calls.specs.declared.timing.Reading.{Reading}
use Rattle.job_calls.specs.declared.timing.Reading.TheVariants.{TableClock, TaskClock, NoClock}
use Rattle.cluster.specs.Timing.{greatest_reading}
use Rattle.reasons.specs.declared.readings.GreatestReading.{GreatestReading}

-- the greatest reading of the table's clock among the readings so far, newest first
pub record IsGreatestOf (skew : ℕ) (before : List Reading) (found : GreatestReading) : Type 0 where
  pub same : found.skew ≡ skew
  pub greatest : found.greatest ≡ greatest_reading before

-- a reading of a task's clock is more than the skew below a reading of the table's
abbrev pub IsBehind : ℕ → Reading → ℕ → Type 0
IsBehind skew (TaskClock late) early = late + skew < early
IsBehind skew (TableClock at) early = ⊥
IsBehind skew NoClock early = ⊥
