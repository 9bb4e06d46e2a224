-- What live runs report.
use Rattle.std.specs.Prelude.{◌≡◌, ℕ, zero, suc, ◌+◌, ◌*◌, Bool, true, false, List, [], ◌∷◌, ◌++◌, None, decimal, vec_len}
use Rattle.std.specs.List.{AllByRecursion, count_by}
use Rattle.slice_ranges.specs.Hash.{slice_key}
use Rattle.grants.specs.declared.table_call.TableCall.{TableCall}
use Rattle.grants.specs.declared.table_call.TableCall.TheVariants.{Commit}
use Rattle.lease_table.specs.Calls.{event_step as table_step}
use Rattle.lease_table.specs.Tables.{opening as new_table}
use Rattle.slicelet.specs.Steps.{event_step as slicelet_step}
use Rattle.slicelet.specs.States.{opening as new_slicelet}
use Rattle.grants.specs.declared.slicelet_call.SliceletCall.{SliceletCall}
use Rattle.clerk.specs.Calls.{event_step as clerk_step}
use Rattle.machines.specs.declared.event.Event.{Event}
use Rattle.history_lock.specs.declared.entry.Entry.{Entry}
use Rattle.history_lock.specs.Histories.{IsLegal}
use Rattle.job_calls.specs.declared.record.CallRecord.{CallRecord}
use Rattle.audit.specs.Shown.{evidence}
use Rattle.audit.specs.OneRun.{IsAudit}
use Rattle.live_run.specs.LiveJobs.{LiveSizes, live_policy, played_job}
use Rattle.live_run.specs.declared.report.LiveReport.{LiveReport}
use Rattle.job_calls.specs.declared.call.ClusterCall.{ClusterCall}
use Rattle.job_calls.specs.declared.call.ClusterCall.TheVariants.{Serve}

-- a task was asked for a key
abbrev pub is_serve : ClusterCall → Bool
is_serve (Serve task key at) = true
is_serve call = false

-- a proposed assignment was committed
abbrev pub is_commit : TableCall → Bool
is_commit (Commit number at) = true
is_commit call = false

-- how many of the records tell of a key that a task was asked for
abbrev pub serves : List CallRecord → ℕ
serves records = count_by (λ (entry : CallRecord). is_serve entry.step) records

-- how many assignments were committed in a history of a table
abbrev pub commits : List (Entry (Event TableCall)) → ℕ
commits history = count_by (λ (entry : Entry (Event TableCall)). is_commit entry.event.call) history

-- the records tell of the keys that are the decimal texts of the numbers from this one on, for which this task was asked, each at its ticket
abbrev pub AreServesFrom : ℕ → ℕ → List CallRecord → Type 0
AreServesFrom task number [] = Unit {0}
AreServesFrom task number (entry ∷ entries) = (entry.step ≡ Serve task (slice_key (decimal number)) entry.ticket) × AreServesFrom task (number + 1) entries

-- the key that a task was asked for, with the number of the task
abbrev pub asked_key : ClusterCall → List (ℕ × ℕ)
asked_key (Serve task key at) = (task, key) ∷ []
asked_key call = []

-- the keys that tasks were asked for, in the order of the records
abbrev pub asked_keys : List CallRecord → List (ℕ × ℕ)
asked_keys [] = []
asked_keys (entry ∷ entries) = asked_key entry.step ++ asked_keys entries

-- the keys that one worker of a task asks for: the decimal texts of so many numbers from this one on
abbrev pub worker_keys : ℕ → ℕ → ℕ → List (ℕ × ℕ)
worker_keys task number zero = []
worker_keys task number (suc asks) = (task, slice_key (decimal number)) ∷ worker_keys task (number + 1) asks

-- the keys that so many workers of a task ask for, each from 0 on
abbrev pub task_keys : ℕ → ℕ → ℕ → List (ℕ × ℕ)
task_keys task asks zero = []
task_keys task asks (suc workers) = worker_keys task 0 asks ++ task_keys task asks workers

-- the keys that the workers of so many tasks from this one on ask for
abbrev pub job_keys : ℕ → ℕ → ℕ → ℕ → List (ℕ × ℕ)
job_keys workers asks task zero = []
job_keys workers asks task (suc tasks) = task_keys task asks workers ++ job_keys workers asks (task + 1) tasks

-- the histories are those of the tasks from this number on: each is legal for the new slicelet of its task
abbrev pub AreOfTasksFrom : ℕ → List (List (Entry (Event SliceletCall))) → Type 0
AreOfTasksFrom task [] = Unit {0}
AreOfTasksFrom task (history ∷ histories) = IsLegal slicelet_step (new_slicelet task) history × AreOfTasksFrom (task + 1) histories

-- the report of a run: the new table, the slicelet of each task and the clerk take all entries of their histories; each worker of each task asked for its keys, and nobody else for any; the generation is how many were committed, and what was audited are the histories and the records of the report
pub record IsReported (job : LiveSizes) (report : LiveReport) : Type 0 where
  pub table : IsLegal table_step (new_table live_policy) report.table
  pub tasks : AreOfTasksFrom 1 report.tasks.items
  pub all_tasks : vec_len report.tasks ≡ job.tasks
  pub clerk : AllByRecursion (IsLegal clerk_step None) report.clerks.items
  pub one_clerk : vec_len report.clerks ≡ 1
  pub asked : report.asked ≡ serves report.records.items
  pub all_asked : report.asked ≡ job.tasks * job.workers * job.asks
  pub keys : asked_keys report.records.items ≡ job_keys job.workers job.asks 1 job.tasks
  pub generation : report.generation ≡ commits report.table
  pub audited : IsAudit (played_job job) (evidence report.table report.tasks.items report.clerks.items report.records.items) report.audit
