-- A reading of the table's clock that is too far above a task's.
use Rattle.std.specs.Prelude.{◌≡◌, ℕ, ◌+◌, nat_lt, List, Option, Some, None, ⊤, if◌then◌else◌}
use Rattle.job_calls.specs.declared.timing.Reading.{Reading}
use Rattle.job_calls.specs.declared.timing.Reading.TheVariants.{TableClock, TaskClock, NoClock}
use Rattle.reasons.specs.declared.untimely.PlacedReading.{PlacedReading}
use Rattle.reasons.specs.declared.untimely.UntimelyReadings.{UntimelyReadings}
use Rattle.reasons.specs.Untimely.{AreNear, IsFirstAhead, number_of}

-- a reading of the table's clock that is more than the skew above a task's reading
abbrev pub ahead_of : ℕ → ℕ → Reading → Option ℕ
ahead_of skew late (TableClock early) = if nat_lt (late + skew) early then Some early else None
ahead_of skew late _ = None

-- the same of a call, if there is one
abbrev pub ahead_at : ℕ → ℕ → Option Reading → Option ℕ
ahead_at skew late None = None
ahead_at skew late (Some reading) = ahead_of skew late reading

-- the greatest reading of the table's clock after one more call
abbrev pub greater : PlacedReading → ℕ → Reading → PlacedReading
greater greatest call (TableClock at) = if nat_lt greatest.at at then record { call = number_of call; at = at } else greatest
greater greatest call _ = greatest

-- a call that reads a task's clock is not near to the calls before it, of which this is the greatest reading of the table's clock
pub record IsUntimely (skew late : ℕ) (readings : List Reading) (call : ℕ) (greatest : PlacedReading) (u : UntimelyReadings) : Type 0 where
  pub number : u.task.call ≡ number_of call
  pub reading : u.task.at ≡ late
  pub first : IsFirstAhead skew late readings call u.first
  pub most : u.greatest ≡ greatest

-- what a call reads is near to the calls before it
abbrev pub IsNearTo : ℕ → Reading → List Reading → ℕ → Type 0
IsNearTo skew (TaskClock late) readings call = AreNear skew late readings call
IsNearTo skew (TableClock at) readings call = ⊤
IsNearTo skew NoClock readings call = ⊤

-- it is not
abbrev pub IsUntimelyBy : ℕ → Reading → List Reading → ℕ → PlacedReading → UntimelyReadings → Type 0
IsUntimelyBy skew (TaskClock late) readings call greatest u = IsUntimely skew late readings call greatest u
IsUntimelyBy skew (TableClock at) readings call greatest u = ⊥
IsUntimelyBy skew NoClock readings call greatest u = ⊥
