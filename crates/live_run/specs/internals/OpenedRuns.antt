-- What all threads of a live run are given, and what they leave.
use Rattle.std.specs.Prelude.{◌≡◌, ℕ, ◌+◌, ◌*◌, ◌≤◌, List, [], ◌∷◌, Option, None, Result, IfOk, All, false, vec_len}
use Rattle.std.specs.declared.alloc.AllocError.{AllocError}
use Rattle.assignment.specs.Slices.{Slicing}
use Rattle.history_lock.specs.Passes.{Lock, IsPassOf, ArePassesOf}
use Rattle.lease_table.specs.Tables.{Standing, opening}
use Rattle.tickets.specs.Tickets.{TicketView, DrawsFrom}
use Rattle.shared_objects.specs.Objects.{SharedObject}
use Rattle.live_run.specs.declared.passes.TablePasses.{TablePasses}
use Rattle.live_run.specs.declared.passes.ClerkPasses.{ClerkPasses}
use Rattle.live_run.specs.declared.live_task.LiveTask.{LiveTask}
use Rattle.live_run.specs.declared.live_task.EndedTask.{EndedTask}
use Rattle.live_run.specs.declared.opened_run.OpenedRun.{OpenedRun}
use Rattle.live_run.specs.declared.ended_run.EndedRun.{EndedRun}
use Rattle.live_run.specs.LiveJobs.{LiveSizes, live_policy}
use Rattle.live_run.specs.Reports.{serves, asked_keys, job_keys, AreOfTasksFrom}
use Rattle.live_run.specs.internals.LiveTasks.{AreOfLanesFrom, IsLiveTask, HasLeft}

module _ (table : SharedObject Standing) (ticket : TicketView) where
  -- the passes of a thread that calls the table are of this lane of its lock and of this ticket, none of its records tells of a key that a task was asked for, and no call of it found no memory
  pub record AreQuietPasses (lane : ℕ) (passes : TablePasses) : Type 0 where
    pub own : IsPassOf table.lock passes.pass
    pub of_lane : passes.pass.lane ≡ lane
    pub draws : DrawsFrom ticket passes.draws
    pub quiet : serves passes.notes.records.items ≡ 0
    pub fed : passes.notes.starved ≡ false

  -- the tasks from this number on, with so many workers each
  abbrev pub AreLiveTasksFrom : ℕ → ℕ → List LiveTask → Type 0
  AreLiveTasksFrom workers task [] = Unit {0}
  AreLiveTasksFrom workers task (live_task ∷ live_tasks) = (IsLiveTask table ticket workers live_task × (live_task.task ≡ task)) × AreLiveTasksFrom workers (task + 1) live_tasks

  -- what such tasks leave
  abbrev pub HaveLeftFrom : ℕ → ℕ → ℕ → List (Result EndedTask AllocError) → Type 0
  HaveLeftFrom workers asks task [] = Unit {0}
  HaveLeftFrom workers asks task (result ∷ results) = IfOk result (λ left. HasLeft table ticket workers asks task left) × HaveLeftFrom workers asks (task + 1) results

module _ (table : SharedObject Standing) (clerk : Lock (Option Slicing)) (ticket : TicketView) where
  -- the same of the clerk's thread, which has lane 1 of the table's lock, and the one lane of the clerk's
  pub record AreQuietClerkPasses (passes : ClerkPasses) : Type 0 where
    pub at_table : AreQuietPasses table ticket 1 passes.table
    pub own : IsPassOf clerk passes.own
    pub of_lane : passes.own.lane ≡ 0

  -- what the assigner's thread, the clerk's and those of the first tasks leave: a history of each task, all passes of these lanes, and the keys that each worker asked for. The first two threads have no history of their own and no workers
  pub record IsEndedRun (workers asks : ℕ) (ended_run : EndedRun) : Type 0 where
    pub tasks : AreOfTasksFrom 1 ended_run.tasks.items
    pub one_each : vec_len ended_run.tasks + 2 ≡ vec_len ended_run.table
    pub own : ArePassesOf table.lock ended_run.table.items
    pub lanes : AreOfLanesFrom 0 ended_run.table.items
    pub clerk_own : ArePassesOf clerk ended_run.clerk.items
    pub clerk_lanes : AreOfLanesFrom 0 ended_run.clerk.items
    pub one_clerk : vec_len ended_run.clerk ≡ 1
    pub draws : All (λ pass. DrawsFrom ticket pass) ended_run.draws.items
    pub many : vec_len ended_run.draws + 2 * workers ≡ vec_len ended_run.table * (workers + 1)
    pub asked : asked_keys ended_run.records.items ≡ job_keys workers asks 1 (vec_len ended_run.tasks)

-- the table and the clerk of a job are new; their locks and the ticket have a pass for each thread: the assigner's has lane 0 of the table's lock, the clerk's lane 1, and the tasks the lanes from 2 on
pub record IsOpenedRun (job : LiveSizes) (opened_run : OpenedRun) : Type 0 where
  pub new_table : opened_run.objects.table.lock.opened.machine ≡ opening live_policy
  pub new_clerk : opened_run.objects.clerk.lock.opened.machine ≡ None
  pub assigner : AreQuietPasses opened_run.objects.table opened_run.objects.ticket 0 opened_run.given.assigner
  pub learner : AreQuietClerkPasses opened_run.objects.table opened_run.objects.clerk.lock opened_run.objects.ticket opened_run.given.learner
  pub live_tasks : AreLiveTasksFrom opened_run.objects.table opened_run.objects.ticket job.workers 1 opened_run.given.live_tasks.items
  pub many : vec_len opened_run.given.live_tasks ≡ job.tasks
  pub table_lanes : opened_run.objects.table.lock.opened.lanes ≡ job.tasks + 2
  pub clerk_lanes : opened_run.objects.clerk.lock.opened.lanes ≡ 1
  pub passes : opened_run.objects.ticket.terms.passes ≡ job.tasks * (job.workers + 1) + 2
  pub quota : job.asks ≤ opened_run.objects.ticket.terms.quota
