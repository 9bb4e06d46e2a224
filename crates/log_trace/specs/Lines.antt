-- What is told of a call of logs.
use Rattle.std.specs.Prelude.{◌≡◌, ℕ, Bool, true, false, List, take, Option, Some, None, MatchOption, if◌then◌else◌}
use Rattle.std.specs.List.{AllByRecursion}
use Rattle.lease_rule.specs.declared.answer.Verdict.TheVariants.{Allow}
use Rattle.assignment.specs.Owners.{owners_of}
use Rattle.assignment.specs.Slices.{is_among}
use Rattle.grants.specs.Assignments.{generation_of, slices_of}
use Rattle.lease_table.specs.Tables.{Standing}
use Rattle.job_calls.specs.declared.call.ClusterCall.TheVariants as call
use Rattle.job_calls.specs.declared.reply.ClusterReply.{ClusterReply}
use Rattle.job_calls.specs.declared.timing.Reading.{Reading}
use Rattle.cluster.specs.Pasts.{Past, readings, standing}
use Rattle.cluster.specs.Timing.{IsNear, greatest_reading}
use Rattle.cluster.specs.continued.Jobs.{Continued, job_in}
use Rattle.reasons.specs.declared.reason.Reason.{Reason}
use Rattle.reasons.specs.Placed.{Placed}
use Rattle.reasons.specs.Readings.{IsBehind}
use Rattle.reasons.specs.Reasons.{IsReason}
use Rattle.replies.specs.declared.reply.Refusal.TheVariants as refusal
use Rattle.replies.specs.declared.reply.Reply.TheVariants as reply
use Rattle.log_line.specs.declared.entry.LogEntry.{LogEntry}
use Rattle.log_line.specs.declared.line.LoggedCall.{LoggedCall}
use Rattle.log_line.specs.declared.line.LoggedCall.TheVariants.{Whole, HearBare, LearnBare, Restore, Sample}
use Rattle.log_line.specs.declared.told.CallerReply.{CallerReply}
use Rattle.log_line.specs.declared.told.CallerReply.TheVariants.{Scripted}
use Rattle.log_line.specs.Calls.{reading_in}
use Rattle.log_line.specs.Told.{is_worded}
use Rattle.log_run.specs.Calls.{call_after, told_after}
use Rattle.log_run.specs.Late.{readings_after}
use Rattle.log_run.specs.Played.{StandsFor}
use Rattle.log_causes.specs.declared.cause.Unsent.{Unsent}
use Rattle.log_causes.specs.Broken.{IsTakingOr}
use Rattle.log_causes.specs.Causes.{IsUnsentFor}
use Rattle.log_trace.specs.declared.breaking.BrokenHandle.{BrokenHandle}
use Rattle.log_trace.specs.declared.line.LogLine.{LogLine}

-- WHAT DECIDES A REPLY

-- the machines answer a call of a line so that its caller is told this, and this is the reason of that answer
pub record IsAnsweredFor (job : Continued) (past : Past) (placed : List Placed) (c : LoggedCall) (told : CallerReply) (reason : Option Reason) : Type 0 where
  pub answer : ClusterReply
  pub tells : told ≡ told_after past c answer
  pub decides : IsReason job past placed (call_after past c) answer reason

-- the reason of the reply to a line, by the calls before it; a table that is restored and a sample have none
abbrev pub IsLineReason : Continued → Past → List Placed → LoggedCall → CallerReply → Option Reason → Type 0
IsLineReason job past placed (Whole c) told reason = IsAnsweredFor job past placed (Whole c) told reason
IsLineReason job past placed (HearBare task grant at) told reason = IsAnsweredFor job past placed (HearBare task grant at) told reason
IsLineReason job past placed (LearnBare clerk generation) told reason = IsAnsweredFor job past placed (LearnBare clerk generation) told reason
IsLineReason job past placed (Restore numbers) told reason = reason ≡ None
IsLineReason job past placed (Sample taken) told reason = reason ≡ None

-- the handle that a call finds broken, and its task
abbrev pub broken_by : LoggedCall → CallerReply → Option BrokenHandle
broken_by (Whole (call.Check task handle at)) (Scripted reply.Broken) = Some (record { task = task; handle = handle })
broken_by _ _ = None

-- of a broken handle, the first of the calls before that took its key away, or that there is none
abbrev pub IsTakenFirst : Continued → List LogEntry → Option BrokenHandle → Option ℕ → Type 0
IsTakenFirst job before None first = first ≡ None
IsTakenFirst job before (Some broken) first = IsTakingOr job before broken.task broken.handle first

-- a reply is that nothing sent before what the call delivers
abbrev pub is_unsent : CallerReply → Bool
is_unsent (Scripted (reply.Refused refusal.NotSent)) = true
is_unsent _ = false

-- why nothing sent before what a call delivers, where its reply says that nothing did
abbrev pub IsUnsentIf : Bool → Continued → Past → List LogEntry → ℕ → LoggedCall → Option Unsent → Type 0
IsUnsentIf true job past entries index c unsent = IsUnsentFor job past entries index c unsent
IsUnsentIf false job past entries index c unsent = unsent ≡ None

-- WARNINGS

-- a reading is near to all readings before it; or this is the greatest one of the table's clock among these, and it is too far above it
abbrev pub IsUntimelyAt : ℕ → Reading → List Reading → Option ℕ → Type 0
IsUntimelyAt skew now before untimely =
    MatchOption untimely (AllByRecursion (IsNear skew now) before) (λ greatest. (greatest ≡ greatest_reading before) × IsBehind skew now greatest)

-- what was read before an entry: the greatest reading of the table's clock in earlier logs, and then the readings of the entries, newest first
abbrev pub readings_before : Continued → List LogEntry → List Reading
readings_before job entries = readings_after (greatest_reading (readings job.earlier)) entries

-- the committed generation, if a task does not own a key in it
abbrev pub not_owner_at : Standing → ℕ → ℕ → Option ℕ
not_owner_at t task key = if is_among (owners_of (slices_of t.committed) key) task then None else Some (generation_of t.committed)

-- the same of a `serve` that was allowed
abbrev pub is_served : CallerReply → Bool
is_served (Scripted (reply.Verdict (Allow kind generation))) = true
is_served _ = false

abbrev pub not_owner_of : Standing → LoggedCall → CallerReply → Option ℕ
not_owner_of t (Whole (call.Serve task key at)) told = if is_served told then not_owner_at t task key else None
not_owner_of t c told = None

-- LINES

-- what is told of the entry at an index, where the calls before it have led to one past, and its call leads to the other
pub record IsLine (job : Continued) (entries : List LogEntry) (index : ℕ) (entry : LogEntry) (past : Past) (placed : List Placed) (after : Past)
    (line : LogLine) : Type 0 where
  pub place : line.index ≡ index
  pub stands : StandsFor (job_in job) past entry.line.call line.reply after
  pub told : line.is_told ≡ is_worded entry.line.reply line.reply
  pub reason : IsLineReason job past placed entry.line.call line.reply line.reason
  pub first_taking : IsTakenFirst job (take index entries) (broken_by entry.line.call line.reply) line.first_taking
  pub unsent : IsUnsentIf (is_unsent line.reply) job after entries index entry.line.call line.unsent
  pub untimely : IsUntimelyAt job.policy.skew (reading_in entry.line.call) (readings_before job (take index entries)) line.untimely
  pub not_owner : line.not_owner ≡ not_owner_of (standing job.policy past) entry.line.call line.reply
