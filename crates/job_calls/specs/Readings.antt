-- Whose clock each call reads.
use Rattle.std.specs.Prelude.{ℕ, Option, Some, None}
use Rattle.grants.specs.TableCalls.{reading_of}
use Rattle.grants.specs.SliceletCalls.{clock_reading}
use Rattle.job_calls.specs.declared.call.ClusterCall.{ClusterCall}
use Rattle.job_calls.specs.declared.call.ClusterCall.TheVariants as call
use Rattle.job_calls.specs.declared.timing.Reading.{Reading}
use Rattle.job_calls.specs.declared.timing.Reading.TheVariants.{TableClock, TaskClock, NoClock}

-- whose clock a call reads, accepted or not, and when; a restart of the table and a new process of a task read none
abbrev pub at_table : Option ℕ → Reading
at_table (Some at) = TableClock at
at_table None = NoClock

abbrev pub at_task : Option ℕ → Reading
at_task (Some at) = TaskClock at
at_task None = NoClock

abbrev pub reading : ClusterCall → Reading
reading (call.Table c) = at_table (reading_of c)
reading (call.Task task c) = at_task (clock_reading c)
reading (call.Serve task key at) = TaskClock at
reading (call.Hold task key at) = TaskClock at
reading (call.Check task handle at) = TaskClock at
reading _ = NoClock
