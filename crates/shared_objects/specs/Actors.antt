-- The calls of tables, slicelets and clerks, as shared objects make and record them.
use Rattle.std.specs.Prelude.{◌≡◌, ℕ, Bool, true, false}
use Rattle.grants.specs.declared.table_call.TableCall.{TableCall}
use Rattle.grants.specs.declared.table_call.TableCall.TheVariants as table_call
use Rattle.grants.specs.declared.table_call.TableReply.{TableReply}
use Rattle.grants.specs.declared.table_call.TableReply.TheVariants as table_reply
use Rattle.grants.specs.declared.table_error.TableError.{TableError}
use Rattle.grants.specs.declared.slicelet_call.SliceletCall.{SliceletCall}
use Rattle.grants.specs.declared.slicelet_call.SliceletCall.TheVariants as slicelet_call
use Rattle.grants.specs.declared.slicelet_call.SliceletReply.{SliceletReply}
use Rattle.grants.specs.declared.slicelet_call.SliceletReply.TheVariants as slicelet_reply
use Rattle.grants.specs.declared.slicelet_error.SliceletError.{SliceletError}
use Rattle.clerk.specs.declared.call.ClerkCall.{ClerkCall}
use Rattle.clerk.specs.declared.call.ClerkCall.TheVariants as clerk_call
use Rattle.clerk.specs.declared.call.ClerkReply.{ClerkReply}
use Rattle.clerk.specs.declared.call.ClerkReply.TheVariants as clerk_reply
use Rattle.clerk.specs.declared.error.ClerkError.{ClerkError}
use Rattle.job_calls.specs.declared.error.ClusterError.TheVariants as refusal
use Rattle.job_calls.specs.declared.reply.ClusterReply.{ClusterReply}
use Rattle.job_calls.specs.declared.reply.ClusterReply.TheVariants as told
use Rattle.shared_objects.specs.declared.when.When.{When}
use Rattle.shared_objects.specs.declared.when.When.TheVariants.{At, AtTicket}

-- READINGS

-- the reading of a call or query that drew a ticket: the one that is given, or the ticket itself
abbrev pub reading_at : When → ℕ → ℕ
reading_at (At reading) ticket = reading
reading_at AtTicket ticket = ticket

-- what is made of a call or query that drew a ticket: the same at that reading
abbrev pub made_at : {A : Type 0} → (A → ℕ → A) → When → A → ℕ → A
made_at at when given ticket = at given (reading_at when ticket)

-- a call at another reading; a restart has none
abbrev pub table_call_at : TableCall → ℕ → TableCall
table_call_at (table_call.JobTake assigner at) reading = table_call.JobTake assigner reading
table_call_at (table_call.JobRenew number at) reading = table_call.JobRenew number reading
table_call_at (table_call.Propose number assignment at) reading = table_call.Propose number assignment reading
table_call_at (table_call.Commit number at) reading = table_call.Commit number reading
table_call_at (table_call.Grant task life at) reading = table_call.Grant task life reading
table_call_at (table_call.Free note at) reading = table_call.Free note reading
table_call_at table_call.Restart reading = table_call.Restart

-- a resumption has none
abbrev pub slicelet_call_at : SliceletCall → ℕ → SliceletCall
slicelet_call_at (slicelet_call.Start life at) reading = slicelet_call.Start life reading
slicelet_call_at (slicelet_call.Hear grant at) reading = slicelet_call.Hear grant reading
slicelet_call_at (slicelet_call.Release kind at) reading = slicelet_call.Release kind reading
slicelet_call_at (slicelet_call.Resume life) reading = slicelet_call.Resume life

-- REPLIES

-- a reply is one of this name
abbrev pub IsNamed : {A R : Type 0} → (A → R) → R → Type 0
IsNamed {A} name reply = (answer : A) × (reply ≡ name answer)

-- the reply to a call that is accepted
abbrev pub IsTableReply : TableCall → TableReply → Type 0
IsTableReply (table_call.JobTake assigner at) reply = IsNamed table_reply.Term reply
IsTableReply (table_call.JobRenew number at) reply = IsNamed table_reply.Term reply
IsTableReply (table_call.Propose number assignment at) reply = reply ≡ table_reply.Proposed
IsTableReply (table_call.Commit number at) reply = IsNamed table_reply.Committed reply
IsTableReply (table_call.Grant task life at) reply = IsNamed table_reply.Granted reply
IsTableReply (table_call.Free note at) reply = IsNamed table_reply.Freed reply
IsTableReply table_call.Restart reply = IsNamed table_reply.Lost reply

abbrev pub IsSliceletReply : SliceletCall → SliceletReply → Type 0
IsSliceletReply (slicelet_call.Start life at) reply = reply ≡ slicelet_reply.Started
IsSliceletReply (slicelet_call.Hear grant at) reply = reply ≡ slicelet_reply.Heard
IsSliceletReply (slicelet_call.Release kind at) reply = IsNamed slicelet_reply.Released reply
IsSliceletReply (slicelet_call.Resume life) reply = IsNamed slicelet_reply.Resumed reply

abbrev pub IsClerkReply : ClerkCall → ClerkReply → Type 0
IsClerkReply (clerk_call.Learn assignment) reply = reply ≡ clerk_reply.Learnt
IsClerkReply clerk_call.Forget reply = reply ≡ clerk_reply.Forgotten

-- REFUSALS

-- a table refuses no restart
abbrev pub table_may_refuse : TableCall → Bool
table_may_refuse table_call.Restart = false
table_may_refuse call = true

-- and a clerk no order to forget
abbrev pub clerk_may_refuse : ClerkCall → Bool
clerk_may_refuse clerk_call.Forget = false
clerk_may_refuse call = true

abbrev pub table_told : TableError → ClusterReply
table_told fault = told.Refused (refusal.Table fault)

abbrev pub slicelet_told : SliceletError → ClusterReply
slicelet_told fault = told.Refused (refusal.Slicelet fault)

abbrev pub clerk_told : ClerkError → ClusterReply
clerk_told fault = told.Refused (refusal.Clerk fault)
