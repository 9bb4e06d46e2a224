-- The greatest reading of the table's clock so far.
use Rattle.std.specs.Prelude.{ℕ, ◌-◌, nat_lt, nat_le, Option, Some, None, if◌then◌else◌}
use Rattle.job_calls.specs.declared.timing.Reading.{Reading}
use Rattle.job_calls.specs.declared.timing.Reading.TheVariants.{TableClock, TaskClock}
use Rattle.log_run.specs.declared.late.Greatest.{Greatest}
use Rattle.log_run.specs.declared.late.Late.{Late}

abbrev pub reached : ℕ → ℕ → Greatest
reached at index = record { at = at; index = Some index }

abbrev pub greater : Greatest → ℕ → ℕ → Greatest
greater g at index = if nat_le at g.at then g else reached at index

abbrev pub greatest_after : Greatest → Reading → ℕ → Greatest
greatest_after g (TableClock at) index = greater g at index
greatest_after g _ index = g

-- a reading of a task's clock that the greatest one of the table's clock is by more than the skew ahead of
abbrev pub late_by : Greatest → ℕ → ℕ → Late
late_by g at index = record { index = index; at = at; table_index = g.index; table_at = g.at }

abbrev pub late_after : ℕ → Greatest → Reading → ℕ → Option Late
late_after skew g (TaskClock at) index = if nat_lt at (g.at - skew) then Some (late_by g at index) else None
late_after skew g _ index = None
