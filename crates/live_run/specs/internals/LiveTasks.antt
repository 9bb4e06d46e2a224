-- What the threads of one task of a live run are given, and what they leave.
use Rattle.std.specs.Prelude.{◌≡◌, ℕ, ◌+◌, ◌*◌, List, [], ◌∷◌, Result, IfOk, All, vec_len}
use Rattle.std.specs.declared.alloc.AllocError.{AllocError}
use Rattle.history_lock.specs.Histories.{IsLegal}
use Rattle.history_lock.specs.Passes.{PassView, IsPassOf, ArePassesOf}
use Rattle.lease_table.specs.Tables.{Standing}
use Rattle.slicelet.specs.Steps.{event_step}
use Rattle.slicelet.specs.States.{SliceletState, opening, rule_in_state}
use Rattle.machines.specs.declared.event.Event.{Event}
use Rattle.slicelet.specs.Rules.{covers_key}
use Rattle.grants.specs.declared.slicelet_call.SliceletCall.{SliceletCall}
use Rattle.tickets.specs.Tickets.{TicketView, TicketPassView, DrawsFrom, new_ticket_pass}
use Rattle.job_calls.specs.declared.record.CallRecord.{CallRecord}
use Rattle.job_calls.specs.declared.reply.ClusterReply.TheVariants as told
use Rattle.lease_rule.specs.declared.answer.Verdict.{Verdict}
use Rattle.shared_objects.specs.Calls.{Asks}
use Rattle.shared_objects.specs.Objects.{SharedObject}
use Rattle.live_run.specs.declared.worker.Member.{Member}
use Rattle.live_run.specs.declared.worker.Worked.{Worked}
use Rattle.live_run.specs.declared.live_task.LiveTask.{LiveTask}
use Rattle.live_run.specs.declared.live_task.EndedTask.{EndedTask}
use Rattle.live_run.specs.declared.live_task.Gathered.{Gathered}
use Rattle.live_run.specs.Reports.{AreServesFrom, asked_keys, task_keys}

-- the passes are of the lanes from this one on
abbrev pub AreOfLanesFrom : {M E : Type 0} → ℕ → List (PassView M E) → Type 0
AreOfLanesFrom lane [] = Unit {0}
AreOfLanesFrom lane (pass ∷ passes) = (pass.lane ≡ lane) × AreOfLanesFrom (lane + 1) passes

-- the record of a key that a task was asked for tells the verdict of its slicelet, as it was inside the call, at the ticket that the call drew
abbrev pub TellsVerdict : SharedObject SliceletState → TicketPassView → TicketPassView → ℕ → PassView SliceletState (Event SliceletCall) → CallRecord → PassView SliceletState (Event SliceletCall) → Type 0
TellsVerdict slicelet old_draws new_draws key old entry new =
    (verdict : Verdict) × (entry.reply ≡ told.Verdict verdict)
    × Asks event_step slicelet.lock old_draws new_draws (λ (machine : SliceletState) number answer. answer ≡ rule_in_state (covers_key key) machine number) old entry.ticket verdict new

module _ (slicelet : SharedObject SliceletState) (ticket : TicketView) where
  -- the passes of a thread are of this lock and lane, and new of this ticket
  pub record IsMember (lane : ℕ) (member : Member) : Type 0 where
    pub own : IsPassOf slicelet.lock member.pass
    pub of_lane : member.pass.lane ≡ lane
    pub draws : member.draws ≡ new_ticket_pass ticket

  abbrev pub AreMembersFrom : ℕ → List Member → Type 0
  AreMembersFrom lane [] = Unit {0}
  AreMembersFrom lane (member ∷ members) = IsMember lane member × AreMembersFrom (lane + 1) members

  -- the worker of this lane asked for so many keys of its task, and for nothing else
  pub record HasWorked (asks lane : ℕ) (worked : Worked) : Type 0 where
    pub own : IsPassOf slicelet.lock worked.pass
    pub of_lane : worked.pass.lane ≡ lane
    pub draws : DrawsFrom ticket worked.draws
    pub many : vec_len worked.records ≡ asks
    pub asked : AreServesFrom slicelet.number 0 worked.records.items

  abbrev pub HaveWorkedFrom : ℕ → ℕ → List (Result Worked AllocError) → Type 0
  HaveWorkedFrom asks lane [] = Unit {0}
  HaveWorkedFrom asks lane (result ∷ results) = IfOk result (λ worked. HasWorked asks lane worked) × HaveWorkedFrom asks (lane + 1) results

  -- what the task's own thread and some of its workers leave: as many passes of each kind, and the keys that each of these workers asked for
  pub record IsGathered (asks : ℕ) (gathered : Gathered) : Type 0 where
    pub own : ArePassesOf slicelet.lock gathered.passes.items
    pub lanes : AreOfLanesFrom 0 gathered.passes.items
    pub draws : All (λ pass. DrawsFrom ticket pass) gathered.draws.items
    pub even : vec_len gathered.draws ≡ vec_len gathered.passes
    pub asked : (workers : ℕ) × (vec_len gathered.passes ≡ workers + 1) × (asked_keys gathered.records.items ≡ task_keys slicelet.number asks workers)

-- the threads of a task have the numbers from this one on
abbrev pub AreNumberedFrom : ℕ → List Member → Type 0
AreNumberedFrom number [] = Unit {0}
AreNumberedFrom number (member ∷ members) = (member.number ≡ number) × AreNumberedFrom (number + 1) members

module _ (table : SharedObject Standing) (ticket : TicketView) where
  -- a task has its new slicelet under a lock; its passes are of the table's lock, of its own lock and new of this ticket, with so many workers. Task 1 has lane 2 of the table's lock. The worker of each lane has the number of the workers of the tasks before and that lane
  pub record IsLiveTask (workers : ℕ) (live_task : LiveTask) : Type 0 where
    pub new : live_task.slicelet.lock.opened.machine ≡ opening live_task.task
    pub numbered : live_task.slicelet.number ≡ live_task.task
    pub table_pass : IsPassOf table.lock live_task.table
    pub of_lane : live_task.table.lane ≡ live_task.task + 1
    pub members : AreMembersFrom live_task.slicelet ticket 0 live_task.members.items
    pub numbers : (before : ℕ) × (before + workers ≡ live_task.task * workers) × AreNumberedFrom before live_task.members.items
    pub many : vec_len live_task.members ≡ workers + 1
    pub lanes : live_task.slicelet.lock.opened.lanes ≡ workers + 1

  -- what the threads of the task of this number leave: the history of its slicelet, the passes of the table's lock and of the ticket, and the keys that each worker asked for
  pub record HasLeft (workers asks task : ℕ) (left : EndedTask) : Type 0 where
    pub played : IsLegal event_step (opening task) left.history
    pub table_pass : IsPassOf table.lock left.table
    pub of_lane : left.table.lane ≡ task + 1
    pub draws : All (λ pass. DrawsFrom ticket pass) left.draws.items
    pub many : vec_len left.draws ≡ workers + 1
    pub asked : asked_keys left.records.items ≡ task_keys task asks workers
