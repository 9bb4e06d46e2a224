-- The first reading that is not timely.
use Rattle.std.specs.Prelude.{◌≡◌, ℕ, ◌+◌, ◌<◌, ◌≤◌, List, [], ◌∷◌, ◌++◌, map, reverse, take, Option, Some, None, slice_get}
use Rattle.job_calls.specs.declared.timing.Reading.{Reading}
use Rattle.job_calls.specs.declared.timing.Reading.TheVariants.{TableClock, TaskClock}
use Rattle.cluster.specs.Timing.{IsTimely}
use Rattle.log_line.specs.declared.entry.LogEntry.{LogEntry}
use Rattle.log_run.specs.declared.late.Late.{Late}
use Rattle.log_line.specs.Calls.{reading_in}

-- what the calls of entries read, newest first
abbrev pub readings_of : List LogEntry → List Reading
readings_of entries = map (λ (e : LogEntry). reading_in e.line.call) (reverse entries)

-- no call of the table before this place read more, and none of the calls before the first did
pub record IsGreatestBefore (earlier : ℕ) (entries : List LogEntry) (index : ℕ) (greatest : ℕ) : Type 0 where
  pub before : earlier ≤ greatest
  pub here : (place : ℕ) (e : LogEntry) (at : ℕ) → place < index → slice_get entries place ≡ Some e → reading_in e.line.call ≡ TableClock at → at ≤ greatest

-- the call of the table at a place before this one read so
pub record IsReadAt (entries : List LogEntry) (index place greatest : ℕ) : Type 0 where
  pub table : LogEntry
  pub there : slice_get entries place ≡ Some table
  pub read : reading_in table.line.call ≡ TableClock greatest
  pub earlier : place < index

-- the table read so at this place, or before the first of the calls
abbrev pub IsReadBefore : ℕ → List LogEntry → ℕ → Option ℕ → ℕ → Type 0
IsReadBefore earlier entries index (Some place) greatest = IsReadAt entries index place greatest
IsReadBefore earlier entries index None greatest = greatest ≡ earlier

-- what the calls of entries read, newest first, after calls of the table that read so much
abbrev pub readings_after : ℕ → List LogEntry → List Reading
readings_after earlier entries = readings_of entries ++ TableClock earlier ∷ []

-- the call of a task at one place read its clock, the greatest reading of the table's clock before it was by more than the skew ahead of it, and all
-- readings before the task's are timely. Before the first of the calls the greatest reading of the table's clock was the earlier one.
pub record IsLate (skew earlier : ℕ) (entries : List LogEntry) (late : Late) : Type 0 where
  pub task : LogEntry
  pub here : slice_get entries late.index ≡ Some task
  pub read : reading_in task.line.call ≡ TaskClock late.at
  pub read_before : IsReadBefore earlier entries late.index late.table_index late.table_at
  pub ahead : late.at + skew < late.table_at
  pub greatest : IsGreatestBefore earlier entries late.index late.table_at
  pub first : IsTimely skew (readings_after earlier (take late.index entries))

-- all readings are timely, or this is the first that is not
abbrev pub AreWatched : ℕ → ℕ → List LogEntry → Option Late → Type 0
AreWatched skew earlier entries None = IsTimely skew (readings_after earlier entries)
AreWatched skew earlier entries (Some late) = IsLate skew earlier entries late
