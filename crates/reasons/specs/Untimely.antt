-- The readings by which calls are not timely.
use Rattle.std.specs.Prelude.{◌≡◌, ℕ, ◌+◌, ◌==◌, ◌<◌, ◌≤◌, List, Option, Some, None, slice_get, if◌then◌else◌}
use Rattle.job_calls.specs.declared.timing.Reading.{Reading}
use Rattle.job_calls.specs.declared.timing.Reading.TheVariants.{TableClock, TaskClock}
use Rattle.reasons.specs.declared.untimely.PlacedReading.{PlacedReading}
use Rattle.reasons.specs.declared.untimely.UntimelyReadings.{UntimelyReadings}

-- READINGS
-- A list begins with the greatest reading of the table's clock in earlier calls, and goes on with what the calls read: a call stands at its number.

-- the call with this number reads so
abbrev pub Reads : List Reading → ℕ → Reading → Type 0
Reads readings call r = slice_get readings call ≡ Some r

-- the number of a call; the earlier calls have none
abbrev pub number_of : ℕ → Option ℕ
number_of call = if call == 0 then None else Some call

-- no call before this one reads the table's clock by more than the skew above a task's reading
abbrev pub AreNear : ℕ → ℕ → List Reading → ℕ → Type 0
AreNear skew late readings before = (call early : ℕ) → call < before → Reads readings call (TableClock early) → early ≤ late + skew

-- each call before this one that reads a task's clock is near to the calls before it
abbrev pub AreTimely : ℕ → List Reading → ℕ → Type 0
AreTimely skew readings before = (call late : ℕ) → call < before → Reads readings call (TaskClock late) → AreNear skew late readings call

-- a reading of the table's clock by a call before this one
pub record IsReadBefore (readings : List Reading) (before : ℕ) (r : PlacedReading) : Type 0 where
  pub call : ℕ
  pub number : r.call ≡ number_of call
  pub within : call < before
  pub reads : Reads readings call (TableClock r.at)

-- the first one that is more than the skew above a task's reading
pub record IsFirstAhead (skew late : ℕ) (readings : List Reading) (before : ℕ) (r : PlacedReading) : Type 0 where
  pub read : IsReadBefore readings before r
  pub ahead : late + skew < r.at
  pub lowest : AreNear skew late readings read.call

-- the greatest one, and of several the first
pub record IsGreatest (readings : List Reading) (before : ℕ) (r : PlacedReading) : Type 0 where
  pub read : IsReadBefore readings before r
  pub most : (call at : ℕ) → call < before → Reads readings call (TableClock at) → at ≤ r.at
  pub first : (call at : ℕ) → call < read.call → Reads readings call (TableClock at) → at < r.at

-- the first call whose reading of a task's clock is not near to the calls before it, with the first and the greatest reading of the table's clock that it
-- is not near to
pub record IsFirstUntimely (skew : ℕ) (readings : List Reading) (u : UntimelyReadings) : Type 0 where
  pub call : ℕ
  pub number : u.task.call ≡ number_of call
  pub reads : Reads readings call (TaskClock u.task.at)
  pub first : IsFirstAhead skew u.task.at readings call u.first
  pub greatest : IsGreatest readings call u.greatest
  pub timely : AreTimely skew readings call
