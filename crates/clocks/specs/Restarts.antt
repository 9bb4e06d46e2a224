-- The table's clock in one process after another, on any hosts, newest first.
use Rattle.std.specs.Prelude.{ℕ, ◌+◌, ◌-◌, ◌≤◌, List, [], ◌∷◌, ⊤, Option, Some, None, Result, Ok, Err}
use Rattle.std.specs.List.{AllByRecursion}
use Rattle.clocks.specs.declared.drift.Drift.{Drift}
use Rattle.clocks.specs.declared.refusal.ClockRefusal.{ClockRefusal}
use Rattle.clocks.specs.declared.table_clock.TableClock.{TableClock}
use Rattle.clocks.specs.Drifts.{most_gain}
use Rattle.clocks.specs.TableClocks.{opened, table_answer, after_table_read}
use Rattle.clocks.specs.Pasts.{Past, table_seen, newest}

-- a process opens the clock with the reading that was kept, at a reading of its local clock; the
-- process reads the clock, at a reading of its local clock. Last comes what a task's local clock
-- shows then, if it runs
pub data TableEvent : Type 0 where
  Opens : ℕ → ℕ → Option ℕ → TableEvent
  Reads : ℕ → Option ℕ → TableEvent

-- what happened so far, newest first
abbrev pub TablePast : Type 0
TablePast = List TableEvent

abbrev pub task_local : TableEvent → Option ℕ
task_local (Opens kept now local) = local
task_local (Reads now local) = local

-- the clock after what happened; before the first process it shows the local reading
abbrev pub table_clock_after : ℕ → TablePast → TableClock
table_clock_after ahead [] = opened 0 ahead 0
table_clock_after ahead (Opens kept now local ∷ past) = opened kept ahead now
table_clock_after ahead (Reads now local ∷ past) =
    after_table_read (table_clock_after ahead past) now (table_answer (table_clock_after ahead past) now)

-- the readings of the clock in all processes, newest first
abbrev pub with_reading : Result ℕ ClockRefusal → Option ℕ → Past → Past
with_reading (Ok value) local readings = table_seen value local ∷ readings
with_reading (Err why) local readings = readings

abbrev pub readings_in : ℕ → TablePast → Past
readings_in ahead [] = []
readings_in ahead (Opens kept now local ∷ past) = readings_in ahead past
readings_in ahead (Reads now local ∷ past) = with_reading (table_answer (table_clock_after ahead past) now) local (readings_in ahead past)

-- from one moment of a process to a later one, its local clock gains on the task's at most what the
-- drift allows
abbrev pub HostGainsWithin : Drift → ℕ → Option ℕ → ℕ → Option ℕ → Type 0
HostGainsWithin drift late (Some local) early (Some from) = late - early ≤ most_gain drift (local - from) + drift.grain
HostGainsWithin drift late _ early _ = ⊤

-- so from each moment since the process opened the clock
abbrev pub KeepsDriftSinceOpened : Drift → ℕ → Option ℕ → TablePast → Type 0
KeepsDriftSinceOpened drift now local [] = ⊤
KeepsDriftSinceOpened drift now local (Opens kept early from ∷ past) = HostGainsWithin drift now local early from
KeepsDriftSinceOpened drift now local (Reads early from ∷ past) = HostGainsWithin drift now local early from × KeepsDriftSinceOpened drift now local past

-- what is kept is not below the last reading, and below it with `ahead` added by at least the grain
-- and one tick
pub record IsKept (drift : Drift) (ahead kept last : ℕ) : Type 0 where
  pub above : last ≤ kept
  pub room : kept + drift.grain + 1 ≤ last + ahead

abbrev pub IsWithinProcess : Drift → ℕ → TableEvent → TablePast → Type 0
IsWithinProcess drift ahead (Opens kept now local) past = IsKept drift ahead kept (newest (readings_in ahead past))
IsWithinProcess drift ahead (Reads now local) past = KeepsDriftSinceOpened drift now local past

-- the task's local clock does not fall, and once it runs it goes on running
abbrev pub GoesOn : Option ℕ → Option ℕ → Type 0
GoesOn (Some early) (Some late) = early ≤ late
GoesOn (Some early) None = ⊥
GoesOn None _ = ⊤

-- THE PREMISE for the table's clock: each process alone keeps the drift, and opens the clock with a
-- reading that was kept so
abbrev pub EachKeepsDrift : Drift → ℕ → TablePast → Type 0
EachKeepsDrift drift ahead [] = ⊤
EachKeepsDrift drift ahead (event ∷ past) =
    IsWithinProcess drift ahead event past × AllByRecursion (λ early. GoesOn (task_local early) (task_local event)) past × EachKeepsDrift drift ahead past
