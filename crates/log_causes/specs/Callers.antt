-- Which actors of a job took the calls of a log.
use Rattle.std.specs.Prelude.{ℕ, ◌==◌, ◌&&◌, nat_lt, zero, suc, Bool, true, false, List, [], ◌∷◌, ◌++◌, if◌then◌else◌, Option, Some, None}
use Rattle.std.specs.List.{count_by}
use Rattle.grants.specs.declared.table_call.TableCall.TheVariants as table_call
use Rattle.job_calls.specs.Jobs.{Job}
use Rattle.job_calls.specs.declared.call.ClusterCall.TheVariants as call
use Rattle.log_causes.specs.declared.callers.Caller.{Caller}
use Rattle.log_causes.specs.declared.callers.Caller.TheVariants.{Table, Task}
use Rattle.log_causes.specs.declared.callers.CountedCalls.{CountedCalls}
use Rattle.log_line.specs.declared.entry.LogEntry.{LogEntry}
use Rattle.log_line.specs.declared.line.LoggedCall.{LoggedCall}
use Rattle.log_line.specs.declared.line.LoggedCall.TheVariants.{Whole, HearBare, LearnBare, Restore, Sample}

-- the table takes the call
unfoldable pub is_of_table : LoggedCall → Bool
is_of_table (Whole (call.Table c)) = true
is_of_table (Whole call.Phase) = true
is_of_table (Whole call.Rows) = true
is_of_table (Restore numbers) = true
is_of_table _ = false

-- this task takes the call
unfoldable pub is_of_task : ℕ → LoggedCall → Bool
is_of_task task (Whole (call.Task by c)) = by == task
is_of_task task (Whole (call.Serve by key at)) = by == task
is_of_task task (Whole (call.Hold by key at)) = by == task
is_of_task task (Whole (call.Check by handle at)) = by == task
is_of_task task (HearBare by grant at) = by == task
is_of_task task (Sample taken) = taken.task == task
is_of_task task _ = false

-- the table or this task takes the call
unfoldable pub is_of : Caller → LoggedCall → Bool
is_of Table c = is_of_table c
is_of (Task task) c = is_of_task task c

-- the clerk that takes the call, if one does
unfoldable pub clerk_of : LoggedCall → Option ℕ
clerk_of (Whole (call.Clerk by c)) = Some by
clerk_of (Whole (call.Look by key)) = Some by
clerk_of (LearnBare by generation) = Some by
clerk_of _ = None

-- this clerk takes the call
abbrev pub is_clerk : ℕ → Option ℕ → Bool
is_clerk clerk None = false
is_clerk clerk (Some by) = by == clerk

abbrev pub is_of_clerk : ℕ → LoggedCall → Bool
is_of_clerk clerk c = is_clerk clerk (clerk_of c)

-- the call asks for a lease for this task, or gives one of it back
unfoldable pub names_task : ℕ → LoggedCall → Bool
names_task task (Whole (call.Table (table_call.Grant for life at))) = for == task
names_task task (Whole (call.Table (table_call.Free note at))) = note.task == task
names_task task _ = false

-- how many of the calls pass a test
unfoldable pub calls_where : (LoggedCall → Bool) → List LogEntry → ℕ
calls_where test entries = count_by (λ e. test e.line.call) entries

-- what the numbers from 1 to a greatest one give, in their order
abbrev pub each_to : {A : Type 0} → (ℕ → List A) → ℕ → List A
each_to of zero = []
each_to of (suc n) = each_to of n ++ of (suc n)

-- an actor, and how many calls it took, if it took any
abbrev pub counted : ℕ → ℕ → List CountedCalls
counted number calls = if calls == 0 then [] else record { number = number; calls = calls } ∷ []

-- how many calls each actor took that took any
unfoldable pub table_count : List LogEntry → ℕ
table_count entries = calls_where (is_of Table) entries

unfoldable pub task_counts : Job → List LogEntry → List CountedCalls
task_counts job entries = each_to (λ n. counted n (calls_where (is_of (Task n)) entries)) job.tasks

unfoldable pub clerk_counts : Job → List LogEntry → List CountedCalls
clerk_counts job entries = each_to (λ n. counted n (calls_where (is_of_clerk n) entries)) job.clerks

-- a task that took no call, though others name it
unfoldable pub is_silent : List LogEntry → ℕ → Bool
is_silent entries task = calls_where (is_of (Task task)) entries == 0 && nat_lt 0 (calls_where (names_task task) entries)

abbrev pub silent : List LogEntry → ℕ → List ℕ
silent entries task = if is_silent entries task then task ∷ [] else []

-- the tasks that took no call, though others name them: the log may lack their lines
unfoldable pub silent_tasks : Job → List LogEntry → List ℕ
silent_tasks job entries = each_to (silent entries) job.tasks
