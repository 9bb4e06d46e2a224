-- The laws of tables, slicelets and clerks as actors.
use Rattle.std.specs.Prelude.{◌≡◌, ℕ, Option, None, Result, Ok, Err, true, refl}
use Rattle.std.proofs.Common.{sym, ap}
use Rattle.assignment.specs.Slices.{Slicing}
use Rattle.lease_table.specs.Calls.{table_step}
use Rattle.lease_table.specs.Steps.{restart_step}
use Rattle.lease_table.specs.Tables.{Standing}
use Rattle.grants.specs.declared.table_call.TableCall.{TableCall}
use Rattle.grants.specs.declared.table_call.TableCall.TheVariants as table_call
use Rattle.grants.specs.declared.table_call.TableReply.{TableReply}
use Rattle.grants.specs.declared.table_call.TableReply.TheVariants as table_reply
use Rattle.grants.specs.declared.table_error.TableError.{TableError}
use Rattle.slicelet.specs.States.{SliceletState}
use Rattle.slicelet.specs.Steps.{slicelet_step}
use Rattle.grants.specs.declared.slicelet_call.SliceletCall.{SliceletCall}
use Rattle.grants.specs.declared.slicelet_call.SliceletCall.TheVariants as slicelet_call
use Rattle.grants.specs.declared.slicelet_call.SliceletReply.{SliceletReply}
use Rattle.clerk.specs.Calls.{clerk_step}
use Rattle.clerk.specs.declared.call.ClerkCall.{ClerkCall}
use Rattle.clerk.specs.declared.call.ClerkCall.TheVariants as clerk_call
use Rattle.clerk.specs.declared.call.ClerkReply.{ClerkReply}
use Rattle.clerk.specs.declared.call.ClerkReply.TheVariants as clerk_reply
use Rattle.clerk.specs.declared.error.ClerkError.{ClerkError}
use Rattle.machines.specs.Answers.{with_named_reply}
use Rattle.machines.specs.declared.event.Event.{Event}
use Rattle.shared_objects.specs.Actors.{IsNamed, IsTableReply, IsSliceletReply, IsClerkReply, table_call_at, slicelet_call_at, table_may_refuse, clerk_may_refuse}

-- a step that names its reply replies nothing else
named_reply : {M A R F : Type 0} (name : A → R) (step : Result (M × A) F) (after : M) (reply : R) → with_named_reply name step ≡ Ok (after, reply) → IsNamed name reply
named_reply {M} {A} {R} name (Ok p) after reply e = let same : ◌≡◌ {A = M × R} (p.0, name p.1) (after, reply) = cc in (p.1, sym (ap (λ (q : M × R). q.1) same))
named_reply name (Err why) after reply e = absurd (cc)

-- TABLES

table_call_replies : (table : Standing) (call : TableCall) (after : Standing) (reply : TableReply) → table_step table call ≡ Ok (after, reply) → IsTableReply call reply
table_call_replies table (table_call.JobTake assigner at) after reply e = named_reply _ _ _ _ e
table_call_replies table (table_call.JobRenew number at) after reply e = named_reply _ _ _ _ e
table_call_replies table (table_call.Propose number assignment at) after reply e = (named_reply _ _ _ _ e).1
table_call_replies table (table_call.Commit number at) after reply e = named_reply _ _ _ _ e
table_call_replies table (table_call.Grant task life at) after reply e = named_reply _ _ _ _ e
table_call_replies table (table_call.Free note at) after reply e = named_reply _ _ _ _ e
table_call_replies table table_call.Restart after reply e = named_reply table_reply.Lost (restart_step table) after reply e

table_call_refuses : (table : Standing) (call : TableCall) (fault : TableError) → table_step table call ≡ Err fault → table_may_refuse call ≡ true
table_call_refuses table (table_call.JobTake assigner at) fault e = refl
table_call_refuses table (table_call.JobRenew number at) fault e = refl
table_call_refuses table (table_call.Propose number assignment at) fault e = refl
table_call_refuses table (table_call.Commit number at) fault e = refl
table_call_refuses table (table_call.Grant task life at) fault e = refl
table_call_refuses table (table_call.Free note at) fault e = refl
table_call_refuses table table_call.Restart fault e = absurd (cc)

pub table_replies : (table : Standing) (event : Event TableCall) (after : Standing) (reply : TableReply) → table_step table event.call ≡ Ok (after, reply) → IsTableReply event.call reply
table_replies table event after reply e = table_call_replies table event.call after reply e

pub table_refuses : (table : Standing) (event : Event TableCall) (fault : TableError) → table_step table event.call ≡ Err fault → table_may_refuse event.call ≡ true
table_refuses table event fault e = table_call_refuses table event.call fault e

pub table_replies_alike : (call : TableCall) (reading : ℕ) (reply : TableReply) → IsTableReply (table_call_at call reading) reply → IsTableReply call reply
table_replies_alike (table_call.JobTake assigner at) reading reply is = is
table_replies_alike (table_call.JobRenew number at) reading reply is = is
table_replies_alike (table_call.Propose number assignment at) reading reply is = is
table_replies_alike (table_call.Commit number at) reading reply is = is
table_replies_alike (table_call.Grant task life at) reading reply is = is
table_replies_alike (table_call.Free note at) reading reply is = is
table_replies_alike table_call.Restart reading reply is = is

pub table_refuses_alike : (call : TableCall) (reading : ℕ) → table_may_refuse (table_call_at call reading) ≡ table_may_refuse call
table_refuses_alike (table_call.JobTake assigner at) reading = refl
table_refuses_alike (table_call.JobRenew number at) reading = refl
table_refuses_alike (table_call.Propose number assignment at) reading = refl
table_refuses_alike (table_call.Commit number at) reading = refl
table_refuses_alike (table_call.Grant task life at) reading = refl
table_refuses_alike (table_call.Free note at) reading = refl
table_refuses_alike table_call.Restart reading = refl

-- SLICELETS

slicelet_call_replies : (slicelet : SliceletState) (call : SliceletCall) (after : SliceletState) (reply : SliceletReply) → slicelet_step slicelet call ≡ Ok (after, reply) → IsSliceletReply call reply
slicelet_call_replies slicelet (slicelet_call.Start life at) after reply e = (named_reply _ _ _ _ e).1
slicelet_call_replies slicelet (slicelet_call.Hear grant at) after reply e = (named_reply _ _ _ _ e).1
slicelet_call_replies slicelet (slicelet_call.Release kind at) after reply e = named_reply _ _ _ _ e
slicelet_call_replies slicelet (slicelet_call.Resume life) after reply e = named_reply _ _ _ _ e

pub slicelet_replies : (slicelet : SliceletState) (event : Event SliceletCall) (after : SliceletState) (reply : SliceletReply) → slicelet_step slicelet event.call ≡ Ok (after, reply) → IsSliceletReply event.call reply
slicelet_replies slicelet event after reply e = slicelet_call_replies slicelet event.call after reply e

pub slicelet_replies_alike : (call : SliceletCall) (reading : ℕ) (reply : SliceletReply) → IsSliceletReply (slicelet_call_at call reading) reply → IsSliceletReply call reply
slicelet_replies_alike (slicelet_call.Start life at) reading reply is = is
slicelet_replies_alike (slicelet_call.Hear grant at) reading reply is = is
slicelet_replies_alike (slicelet_call.Release kind at) reading reply is = is
slicelet_replies_alike (slicelet_call.Resume life) reading reply is = is

-- CLERKS

clerk_call_replies : (clerk : Option Slicing) (call : ClerkCall) (after : Option Slicing) (reply : ClerkReply) → clerk_step clerk call ≡ Ok (after, reply) → IsClerkReply call reply
clerk_call_replies clerk (clerk_call.Learn assignment) after reply e = (named_reply _ _ _ _ e).1
clerk_call_replies clerk clerk_call.Forget after reply e = let same : ◌≡◌ {A = Option Slicing × ClerkReply} (None, clerk_reply.Forgotten) (after, reply) = cc in sym (ap (λ (q : Option Slicing × ClerkReply). q.1) same)

clerk_call_refuses : (clerk : Option Slicing) (call : ClerkCall) (fault : ClerkError) → clerk_step clerk call ≡ Err fault → clerk_may_refuse call ≡ true
clerk_call_refuses clerk (clerk_call.Learn assignment) fault e = refl
clerk_call_refuses clerk clerk_call.Forget fault e = absurd (cc)

pub clerk_replies : (clerk : Option Slicing) (event : Event ClerkCall) (after : Option Slicing) (reply : ClerkReply) → clerk_step clerk event.call ≡ Ok (after, reply) → IsClerkReply event.call reply
clerk_replies clerk event after reply e = clerk_call_replies clerk event.call after reply e

pub clerk_refuses : (clerk : Option Slicing) (event : Event ClerkCall) (fault : ClerkError) → clerk_step clerk event.call ≡ Err fault → clerk_may_refuse event.call ≡ true
clerk_refuses clerk event fault e = clerk_call_refuses clerk event.call fault e
