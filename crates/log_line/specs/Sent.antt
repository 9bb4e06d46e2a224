-- The entries that send something, by their words.
use Rattle.std.specs.Prelude.{◌||◌, ◌++◌, codes, decimal, if◌then◌else◌, ◌≡◌, ℕ, ◌<◌, ◌≤◌, ◌&&◌, not, nat_eq, Bool, true, false, List, [], length, Option, Some, None, slice_get}
use Rattle.std.specs.Str.{bytes_eq}
use Rattle.std.specs.List.{starts_with, ends_with}
use Rattle.assignment.specs.Slices.{Slicing}
use Rattle.assignment.specs.Equality.{slicing_eq}
use Rattle.lease_rule.specs.Leases.{same_kind}
use Rattle.grants.specs.declared.policy.TheConstants.{MOST_GRANTS}
use Rattle.grants.specs.declared.values.Grant.{Grant}
use Rattle.grants.specs.declared.values.ReleaseNote.{ReleaseNote}
use Rattle.grants.specs.declared.table_call.TableCall.TheVariants as table_call
use Rattle.grants.specs.declared.slicelet_call.SliceletCall.TheVariants as task_call
use Rattle.key_handle.specs.declared.handle.KeyHandle.{KeyHandle}
use Rattle.job_calls.specs.declared.call.ClusterCall.TheVariants as call
use Rattle.replies.specs.declared.reply.Reply.{Reply}
use Rattle.replies.specs.declared.reply.Reply.TheVariants as reply
use Rattle.log_line.specs.declared.entry.LogEntry.{LogEntry}
use Rattle.log_line.specs.declared.line.BareGrant.{BareGrant}
use Rattle.log_line.specs.declared.line.LoggedCall.{LoggedCall}
use Rattle.log_line.specs.declared.line.LoggedCall.TheVariants.{Whole}
use Rattle.log_line.specs.declared.told.CallerReply.TheVariants.{Scripted}
use Rattle.log_line.specs.Calls.{with_ranges}
use Rattle.log_line.specs.Told.{plain_text}

-- the words of an entry are those of a reply, without the numbers of notes and handles
abbrev pub says : Reply → LogEntry → Bool
says r e = bytes_eq e.line.reply (plain_text (Scripted r))

-- a grant without its ranges
abbrev pub bare : Grant → BareGrant
bare g = record {
  number = g.number;
  task = g.task;
  life = g.life;
  kind = g.lease.kind;
  generation = g.lease.generation;
  ends = g.lease.ends;
  table_ends = g.table_ends;
}

-- the table's reply to a call of the grant's task and life sends it; no words say its ranges
abbrev pub asks_for : BareGrant → LoggedCall → Bool
asks_for g (Whole (call.Table (table_call.Grant task life at))) = nat_eq task g.task && nat_eq life g.life
asks_for g _ = false

abbrev pub sends_grant : BareGrant → LogEntry → Bool
sends_grant g e = asks_for g e.line.call && says (reply.Granted (with_ranges g [])) e

-- an accepted call proposes this assignment, or another one of its generation
abbrev pub proposes : Bool → Slicing → LoggedCall → Bool
proposes false a (Whole (call.Table (table_call.Propose term slicing at))) = slicing_eq a slicing
proposes true a (Whole (call.Table (table_call.Propose term slicing at))) = nat_eq a.generation slicing.generation && not (slicing_eq a slicing)
proposes other a _ = false

abbrev pub sends_proposal : Bool → Slicing → LogEntry → Bool
sends_proposal other a e = proposes other a e.line.call && says (reply.Proposed a.generation) e

-- an accepted call commits this generation
abbrev pub commits : LoggedCall → Bool
commits (Whole (call.Table (table_call.Commit number at))) = true
commits _ = false

abbrev pub sends_commit : ℕ → LogEntry → Bool
sends_commit generation e = commits e.line.call && says (reply.Committed generation) e

-- the reply to a `release` of its task and kind sends a note, by its life and number, or by its number alone after that among all notes;
-- if its life ended with a process, the `open` of the next one sends it
abbrev pub tells_numbered : ReleaseNote → List ℕ → Bool
tells_numbered n words = starts_with nat_eq words (codes "released note ") && ends_with nat_eq words (codes " number " ++ decimal n.number)

abbrev pub tells_note : ReleaseNote → LogEntry → Bool
tells_note n e = says (reply.Released 0 n) e || tells_numbered n e.line.reply

abbrev pub gives_back : ReleaseNote → LoggedCall → Bool
gives_back n (Whole (call.Task task (task_call.Release kind at))) = nat_eq task n.task && same_kind kind n.kind
gives_back n _ = false

abbrev pub tells_open : ℕ → LogEntry → Bool
tells_open life e = bytes_eq e.line.reply (codes "opened " ++ decimal life)

abbrev pub ends_life : ReleaseNote → LoggedCall → Bool
ends_life n (Whole (call.Task task (task_call.Resume life))) = nat_eq task n.task && (nat_eq life n.life && nat_eq n.number MOST_GRANTS)
ends_life n _ = false

abbrev pub sends_note : ReleaseNote → LogEntry → Bool
sends_note n e = if gives_back n e.line.call then tells_note n e else (ends_life n e.line.call && tells_open n.life e)

-- the reply to a `hold` of its task and key sends a handle, if it names it by its life and position; so named, one of another key has these too
abbrev pub takes : Bool → KeyHandle → LoggedCall → Bool
takes false h (Whole (call.Hold task key at)) = nat_eq task h.task && nat_eq key h.key
takes true h (Whole (call.Hold task key at)) = nat_eq task h.task && not (nat_eq key h.key)
takes other h _ = false

abbrev pub sends_handle : Bool → KeyHandle → LogEntry → Bool
sends_handle other h e = takes other h e.line.call && says (reply.Holding 0 h) e

-- a reply that names a handle by its number among all handles does not say which it is
abbrev pub tells_no_position : List ℕ → Bool
tells_no_position words = starts_with nat_eq words (codes "handle ") && not (starts_with nat_eq words (codes "handle life "))

abbrev pub hides_handle : KeyHandle → LogEntry → Bool
hides_handle h e = takes false h e.line.call && tells_no_position e.line.reply

-- no entry at these places passes
abbrev pub NonePasses : (LogEntry → Bool) → List LogEntry → ℕ → ℕ → Type 0
NonePasses passes entries from to = (place : ℕ) (e : LogEntry) → from ≤ place → place < to → slice_get entries place ≡ Some e → passes e ≡ false

-- the first entry from one place on that passes, if there is one
pub record IsFirst (passes : LogEntry → Bool) (entries : List LogEntry) (from place : ℕ) : Type 0 where
  pub entry : LogEntry
  pub here : slice_get entries place ≡ Some entry
  pub is : passes entry ≡ true
  pub within : from ≤ place
  pub first : NonePasses passes entries from place

abbrev pub IsFirstFrom : (LogEntry → Bool) → List LogEntry → ℕ → Option ℕ → Type 0
IsFirstFrom passes entries from None = NonePasses passes entries from (length entries)
IsFirstFrom passes entries from (Some place) = IsFirst passes entries from place
