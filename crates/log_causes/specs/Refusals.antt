-- Why a call is refused, beyond what its refusal says.
use Rattle.std.specs.Prelude.{ℕ, ◌==◌, Option, Some, None, option_map, option_and_then, if◌then◌else◌}
use Rattle.grants.specs.declared.table_call.TableCall.TheVariants as table_call
use Rattle.grants.specs.declared.values.JobTerm.{JobTerm}
use Rattle.grants.specs.declared.values.Row.{Row}
use Rattle.grants.specs.Rows.{first_up_to}
use Rattle.lease_table.specs.Tables.{Standing}
use Rattle.grants.specs.Assignments.{generation_of}
use Rattle.slicelet.specs.States.{SliceletState}
use Rattle.job_calls.specs.Jobs.{Job}
use Rattle.job_calls.specs.declared.call.ClusterCall.TheVariants as call
use Rattle.job_calls.specs.declared.timing.Reading.{Reading}
use Rattle.job_calls.specs.declared.timing.Reading.TheVariants.{TableClock, TaskClock, NoClock}
use Rattle.cluster.specs.Pasts.{Past}
use Rattle.cluster.specs.Clusters.{slicelet_of}
use Rattle.log_causes.specs.declared.cause.Cause.{Cause}
use Rattle.log_causes.specs.declared.cause.Cause.TheVariants.{TermEnded, OtherTerm, ReadAfter, RowEnds, GrantEnded, InLife}
use Rattle.log_line.specs.declared.line.BareGrant.{BareGrant}
use Rattle.log_line.specs.declared.line.LoggedCall.{LoggedCall}
use Rattle.log_line.specs.declared.line.LoggedCall.TheVariants.{Whole, HearBare}
use Rattle.log_line.specs.Calls.{reading_in}
use Rattle.log_causes.specs.Causes.{grant_delivered}

-- the term of the job lease that a call names
abbrev pub term_in : LoggedCall → Option ℕ
term_in (Whole (call.Table (table_call.JobRenew number at))) = Some number
term_in (Whole (call.Table (table_call.Propose number slicing at))) = Some number
term_in (Whole (call.Table (table_call.Commit number at))) = Some number
term_in _ = None

-- why a term does not hold the job lease: it is the last one that the table gave, and has ended; or another one is the last
abbrev pub term_cause : ℕ → JobTerm → Cause
term_cause number last = if last.number == number then TermEnded number last.until else OtherTerm last.number

abbrev pub holder_cause : Option ℕ → Option JobTerm → Option Cause
holder_cause (Some number) (Some last) = Some (term_cause number last)
holder_cause _ _ = None

-- the reading of a call, whichever clock it is of; 0 for none
abbrev pub ticks_of : Reading → ℕ
ticks_of (TableClock at) = at
ticks_of (TaskClock at) = at
ticks_of NoClock = 0

abbrev pub ticks_in : LoggedCall → ℕ
ticks_in c = ticks_of (reading_in c)

-- the row that holds a commit up, and the reading at which it still runs
abbrev pub row_cause : Standing → ℕ → Option Cause
row_cause t at = option_map (λ (row : Row). RowEnds row.table_ends at) (first_up_to (generation_of t.committed) at t.rows)

-- the lease that a call delivers has ended at its reading
abbrev pub late_cause : LoggedCall → Option Cause
late_cause c = option_map (λ (g : BareGrant). GrantEnded g.kind g.number g.ends (ticks_in c)) (grant_delivered c)

-- the task that a call is one of
abbrev pub caller_of : LoggedCall → Option ℕ
caller_of (Whole (call.Task task c)) = Some task
caller_of (Whole (call.Serve task key at)) = Some task
caller_of (Whole (call.Hold task key at)) = Some task
caller_of (HearBare task grant at) = Some task
caller_of _ = None

abbrev pub state_of_caller : Job → Past → LoggedCall → Option SliceletState
state_of_caller job past c = option_and_then (slicelet_of job past) (caller_of c)

-- a reading is below the last one of its task
abbrev pub task_back_cause : Job → Past → LoggedCall → Option Cause
task_back_cause job past c = option_map (λ (s : SliceletState). ReadAfter (ticks_in c) s.last) (state_of_caller job past c)

-- a task is in this life
abbrev pub life_cause : Job → Past → LoggedCall → Option Cause
life_cause job past c = option_map (λ (s : SliceletState). InLife s.life) (state_of_caller job past c)
