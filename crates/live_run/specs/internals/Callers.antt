-- What the threads of a live run are given, what they call with, and what they leave.
use Rattle.std.specs.Prelude.{◌≡◌, ℕ, Option, Result, Ok, false}
use Rattle.history_lock.specs.Passes.{Lock, IsPassOf}
use Rattle.lease_table.specs.Tables.{Standing}
use Rattle.slicelet.specs.States.{SliceletState}
use Rattle.assignment.specs.Slices.{Slicing}
use Rattle.tickets.specs.Tickets.{TicketView, TicketPassView, DrawsFrom}
use Rattle.live_run.specs.declared.passes.TablePasses.{TablePasses}
use Rattle.live_run.specs.declared.passes.TaskPasses.{TaskPasses}
use Rattle.live_run.specs.declared.passes.ClerkPasses.{ClerkPasses}
use Rattle.live_run.specs.declared.table_caller.TableCaller.{TableCaller}
use Rattle.live_run.specs.declared.task_caller.TaskCaller.{TaskCaller}
use Rattle.live_run.specs.declared.clerk_caller.ClerkCaller.{ClerkCaller}
use Rattle.lease_table.specs.Calls.{event_step as table_step}
use Rattle.grants.specs.declared.table_call.TableCall.{TableCall}
use Rattle.grants.specs.declared.table_call.TableCall.TheVariants.{Free}
use Rattle.grants.specs.declared.table_call.TableReply.{TableReply}
use Rattle.grants.specs.declared.table_call.TableReply.TheVariants.{Freed}
use Rattle.grants.specs.declared.values.ReleaseNote.{ReleaseNote}
use Rattle.lease_rule.specs.declared.lease.Kind.{Kind}
use Rattle.slicelet.specs.Steps.{event_step as slicelet_step}
use Rattle.grants.specs.declared.slicelet_call.SliceletCall.{SliceletCall}
use Rattle.grants.specs.declared.slicelet_call.SliceletCall.TheVariants.{Release}
use Rattle.grants.specs.declared.slicelet_call.SliceletReply.{SliceletReply}
use Rattle.grants.specs.declared.slicelet_call.SliceletReply.TheVariants.{Released}
use Rattle.clerk.specs.Calls.{event_step as clerk_step}
use Rattle.clerk.specs.declared.call.ClerkCall.{ClerkCall}
use Rattle.clerk.specs.declared.call.ClerkReply.{ClerkReply}
use Rattle.job_calls.specs.declared.call.ClusterCall.TheVariants.{Clerk, Table, Task}
use Rattle.shared_objects.specs.Calls.{Writes}
use Rattle.shared_objects.specs.Actors.{clerk_told, slicelet_call_at, slicelet_told, table_call_at, table_told}
use Rattle.shared_objects.specs.Objects.{SharedObject}
use Rattle.live_run.specs.declared.notes.Halt.{Halt}
use Rattle.live_run.specs.Reports.{serves}
use Rattle.live_run.specs.internals.Notes.{CalledAndNoted}

-- WHAT THREADS ARE GIVEN, AND WHAT THEY LEAVE

module _ (table : SharedObject Standing) (ticket : TicketView) where
  -- the passes are of this table and of this ticket, and no call found no memory
  abbrev pub AreTablePasses : TablePasses → Type 0
  AreTablePasses passes = IsPassOf table.lock passes.pass × DrawsFrom ticket passes.draws × (passes.notes.starved ≡ false)

  -- the passes are still of the same lane, table and ticket, and no record of a key that a task was asked for was added
  pub record KeepsTablePasses (old new : TablePasses) : Type 0 where
    pub own : IsPassOf table.lock new.pass
    pub draws : DrawsFrom ticket new.draws
    pub lane : new.pass.lane ≡ old.pass.lane
    pub served : serves new.notes.records.items ≡ serves old.notes.records.items

module _ (table : SharedObject Standing) (slicelet : SharedObject SliceletState) (ticket : TicketView) where
  abbrev pub AreTaskPasses : TaskPasses → Type 0
  AreTaskPasses passes = AreTablePasses table ticket passes.table × IsPassOf slicelet.lock passes.own

  -- the same of a task's thread, with its pass of the task's lock
  pub record KeepsTaskPasses (old new : TaskPasses) : Type 0 where
    pub at_table : KeepsTablePasses table ticket old.table new.table
    pub own : IsPassOf slicelet.lock new.own
    pub lane : new.own.lane ≡ old.own.lane

module _ (table : SharedObject Standing) (clerk : Lock (Option Slicing)) (ticket : TicketView) where
  abbrev pub AreClerkPasses : ClerkPasses → Type 0
  AreClerkPasses passes = AreTablePasses table ticket passes.table × IsPassOf clerk passes.own

  -- the same of a clerk's thread, with its pass of the clerk's lock
  pub record KeepsClerkPasses (old new : ClerkPasses) : Type 0 where
    pub at_table : KeepsTablePasses table ticket old.table new.table
    pub own : IsPassOf clerk new.own
    pub lane : new.own.lane ≡ old.own.lane

-- SEATS

-- the calls went to the same table, from the same lane and ticket, and no record of a key that a task was asked for was added
pub record KeepsCaller (old new : TableCaller) : Type 0 where
  pub table : new.table ≡ old.table
  pub ticket : new.draws.ticket ≡ old.draws.ticket
  pub lane : new.pass.lane ≡ old.pass.lane
  pub served : serves new.notes.records.items ≡ serves old.notes.records.items

-- the same of a task's thread, with its slicelet
pub record KeepsTaskCaller (old new : TaskCaller) : Type 0 where
  pub at_table : KeepsCaller old.table new.table
  pub slicelet : new.slicelet ≡ old.slicelet
  pub lane : new.own.lane ≡ old.own.lane

-- the same of a clerk's thread, with its clerk
pub record KeepsClerkCaller (old new : ClerkCaller) : Type 0 where
  pub at_table : KeepsCaller old.table new.table
  pub clerk : new.clerk ≡ old.clerk
  pub lane : new.own.lane ≡ old.own.lane

-- CALLS

-- a call of the table by a thread, at the reading that is its ticket, and what the thread notes of it
abbrev pub CalledForTable : TableCall → TableCaller → Result TableReply Halt → TableCaller → Type 0
CalledForTable call old result new =
    CalledAndNoted table_step old.table.now.lock old.draws.pass new.draws.pass (table_call_at call) (λ ticket. Table (table_call_at call ticket)) table_told old.pass old.notes result new.pass new.notes

-- a call of the slicelet by its task's thread
abbrev pub CalledForTask : SliceletCall → TaskCaller → Result SliceletReply Halt → TaskCaller → Type 0
CalledForTask call old result new =
    CalledAndNoted slicelet_step old.slicelet.now.lock old.table.draws.pass new.table.draws.pass (slicelet_call_at call) (λ ticket. Task old.slicelet.now.number (slicelet_call_at call ticket)) slicelet_told
    old.own old.table.notes result new.own new.table.notes

-- a call of the clerk by its thread
abbrev pub CalledForClerk : ClerkCall → ClerkCaller → Result ClerkReply Halt → ClerkCaller → Type 0
CalledForClerk call old result new =
    CalledAndNoted clerk_step old.clerk.now.lock old.table.draws.pass new.table.draws.pass (λ _. call) (λ _. Clerk old.clerk.now.number call) clerk_told
    old.own old.table.notes result new.own new.table.notes

-- the lease of a kind was given up, and then the rows that its note closes were freed at the table
pub record HasFreed (kind : Kind) (old new : TaskCaller) : Type 0 where
  pub note : ReleaseNote
  pub between : TicketPassView
  pub released : Writes slicelet_step old.slicelet.now.lock old.table.draws.pass between (Release kind) old.own (Ok (Released note)) new.own
  pub rows : ℕ
  pub freed : Writes table_step old.table.table.now.lock between new.table.draws.pass (Free note) old.table.pass (Ok (Freed rows)) new.table.pass
