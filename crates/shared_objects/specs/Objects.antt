-- Shared objects, as callers know them, and what their calls answer.
use Rattle.std.specs.Prelude.{◌≡◌, ℕ, List, Option, Result, Ok, Err, IfOk}
use Rattle.assignment.specs.Slices.{Slicing}
use Rattle.lease_table.specs.Calls.{event_step as table_step}
use Rattle.lease_table.specs.Tables.{Standing}
use Rattle.grants.specs.declared.table_call.TableCall.{TableCall}
use Rattle.grants.specs.declared.table_call.TableReply.{TableReply}
use Rattle.grants.specs.declared.table_error.TableError.{TableError}
use Rattle.grants.specs.declared.values.Row.{Row}
use Rattle.slicelet.specs.Steps.{event_step as slicelet_step}
use Rattle.slicelet.specs.States.{SliceletState}
use Rattle.grants.specs.declared.slicelet_call.SliceletCall.{SliceletCall}
use Rattle.grants.specs.declared.slicelet_call.SliceletReply.{SliceletReply}
use Rattle.grants.specs.declared.slicelet_error.SliceletError.{SliceletError}
use Rattle.clerk.specs.Calls.{event_step as clerk_step}
use Rattle.clerk.specs.declared.call.ClerkCall.{ClerkCall}
use Rattle.clerk.specs.declared.call.ClerkReply.{ClerkReply}
use Rattle.clerk.specs.declared.error.ClerkError.{ClerkError}
use Rattle.machines.specs.declared.event.Event.{Event}
use Rattle.history_lock.specs.Passes.{Lock, PassView}
use Rattle.history_lock.specs.Answers.{HasWaited, Shared}
use Rattle.tickets.specs.Tickets.{TicketPassView}
use Rattle.job_calls.specs.declared.call.ClusterCall.TheVariants as recorded_call
use Rattle.job_calls.specs.declared.reply.ClusterReply.TheVariants as told
use Rattle.shared_objects.specs.declared.error.CallError.{CallError}
use Rattle.shared_objects.specs.declared.error.Recorded.{Recorded}
use Rattle.shared_objects.specs.declared.error.RowsError.{RowsError}
use Rattle.shared_objects.specs.declared.error.RowsError.TheVariants.{Spent, NoMemory}
use Rattle.shared_objects.specs.Actors.{clerk_told, slicelet_told, table_told}
use Rattle.shared_objects.specs.Calls.{WasSpent, CalledToWrite, Asks, AsksFor}

-- a machine under its lock, and the number by which its calls are recorded
pub record SharedObject (M : Type 0) : Type 0 where
  pub number : ℕ
  pub lock : Lock M

abbrev pub shared_object : {M : Type 0} → ℕ → Lock M → SharedObject M
shared_object number lock = record { number = number; lock = lock }

-- CALLS THAT WRITE

-- the reply of the machine that an answer stands for
abbrev pub replied : {A R E : Type 0} → (A → R) → Result A E → Result R E
replied reply_for (Ok answer) = Ok (reply_for answer)
replied reply_for (Err error) = Err error

-- a call that may change the table: one write of its lock, of this call at each ticket; the answer stands for this reply
abbrev pub CalledTable : {A : Type 0} → SharedObject Standing → TicketPassView → TicketPassView → (ℕ → TableCall) → (A → TableReply)
    → PassView Standing (Event TableCall) → Result A (CallError TableError) → PassView Standing (Event TableCall) → Type 0
CalledTable table old_draws new_draws call reply_for old result new =
    CalledToWrite table_step table.lock old_draws new_draws call (λ ticket. recorded_call.Table (call ticket)) table_told old (replied reply_for result) new

-- a call that may change a slicelet
abbrev pub CalledSlicelet : {A : Type 0} → SharedObject SliceletState → TicketPassView → TicketPassView → (ℕ → SliceletCall) → (A → SliceletReply)
    → PassView SliceletState (Event SliceletCall) → Result A (CallError SliceletError) → PassView SliceletState (Event SliceletCall) → Type 0
CalledSlicelet slicelet old_draws new_draws call reply_for old result new =
    CalledToWrite slicelet_step slicelet.lock old_draws new_draws call (λ ticket. recorded_call.Task slicelet.number (call ticket)) slicelet_told old (replied reply_for result) new

-- a call that may change a clerk, which has no reading
abbrev pub CalledClerk : {A : Type 0} → SharedObject (Option Slicing) → TicketPassView → TicketPassView → ClerkCall → (A → ClerkReply)
    → PassView (Option Slicing) (Event ClerkCall) → Result A (CallError ClerkError) → PassView (Option Slicing) (Event ClerkCall) → Type 0
CalledClerk clerk old_draws new_draws call reply_for old result new =
    CalledToWrite clerk_step clerk.lock old_draws new_draws (λ _. call) (λ _. recorded_call.Clerk clerk.number call) clerk_told old (replied reply_for result) new

-- CALLS THAT COPY WHAT A TABLE HAS

module _ (lock : Lock Standing) (old_draws new_draws : TicketPassView) where
  -- `rows`
  abbrev pub AskedForRows : PassView Standing (Event TableCall) → Result (Recorded (List Row)) RowsError → PassView Standing (Event TableCall) → Type 0
  AskedForRows old (Ok asked) new = AsksFor table_step lock old_draws new_draws (λ table _ rows. rows ≡ table.rows) (λ _. recorded_call.Rows) told.Rows old asked new
  AskedForRows old (Err Spent) new = WasSpent old_draws new_draws old new
  AskedForRows old (Err NoMemory) new = (ticket : ℕ) × Asks table_step lock old_draws new_draws (λ _ _ _. Unit {0}) old ticket (tt {0}) new

-- `committed`, which draws no ticket: a copy of the assignment that is committed in the replay of what is seen then
abbrev pub AskedForCommitted : {E : Type 0} → Lock Standing → PassView Standing (Event TableCall) → Result (Option Slicing) E → PassView Standing (Event TableCall) → Type 0
AskedForCommitted lock old result new =
    (late : PassView Standing (Event TableCall)) × HasWaited lock old late × Shared table_step lock (λ table answer. IfOk answer (λ assignment. assignment ≡ table.committed)) late result new
