-- What is told of a step.
use Rattle.std.specs.Prelude.{◌≡◌, ◌≢◌, ℕ, ◌+◌, List, [], ◌∷◌, map, length, Option, Some, None, Result, Ok, Err, MatchOption, option_map, ⊤, if◌then◌else◌}
use Rattle.std.specs.List.{AllByRecursion}
use Rattle.slice_ranges.specs.Hash.{slice_key}
use Rattle.assignment.specs.Owners.{owners_of}
use Rattle.assignment.specs.Slices.{is_among}
use Rattle.grants.specs.Assignments.{generation_of, slices_of}
use Rattle.lease_table.specs.Tables.{Standing}
use Rattle.job_calls.specs.declared.call.ClusterCall.{ClusterCall}
use Rattle.job_calls.specs.declared.timing.Reading.{Reading}
use Rattle.job_calls.specs.declared.reply.ClusterReply.{ClusterReply}
use Rattle.cluster.specs.Pasts.{Past as Calls, standing}
use Rattle.cluster.specs.Timing.{IsNear, greatest_reading}
use Rattle.cluster.specs.continued.Jobs.{Continued, from_start}
use Rattle.reasons.specs.declared.made.Delivery.{Delivery}
use Rattle.reasons.specs.declared.made.Delivery.TheVariants as sent
use Rattle.reasons.specs.Placed.{Placed}
use Rattle.reasons.specs.Made.{greatest_made}
use Rattle.reasons.specs.Readings.{IsBehind}
use Rattle.reasons.specs.Reasons.{IsReason}
use Rattle.replies.specs.declared.reply.Refusal.{Refusal}
use Rattle.replies.specs.declared.reply.Refusal.TheVariants as refusal
use Rattle.replies.specs.declared.reply.Reply.{Reply}
use Rattle.replies.specs.declared.reply.Reply.TheVariants as reply
use Rattle.world.specs.Jobs.{Job}
use Rattle.world.specs.declared.step.Step.{Step}
use Rattle.world.specs.declared.step.Step.TheVariants as step
use Rattle.world.specs.Pasts.{Past, reading, steps_of}
use Rattle.world.specs.Calls.{answered, call_of, calls_in}
use Rattle.world.specs.Headline.{is_served}
use Rattle.script_trace.specs.declared.line.StepReason.{StepReason}
use Rattle.script_trace.specs.declared.line.StepReason.TheVariants as why
use Rattle.script_trace.specs.declared.line.TraceLine.{TraceLine}
use Rattle.script_trace.specs.Steps.{delivered_in, placed_in}

-- WHAT DECIDES A REPLY

-- the reason of the reply to a call, by the calls before it
abbrev pub IsCallReason : Continued → Calls → List Placed → ClusterCall → ClusterReply → Option StepReason → Type 0
IsCallReason job calls placed made answer None = IsReason job calls placed made answer None
IsCallReason job calls placed made answer (Some (why.Machines reason)) = IsReason job calls placed made answer (Some reason)
IsCallReason job calls placed made answer (Some (why.Made number)) = ⊥

-- what a step delivers by a number
abbrev pub delivery_of : Step → Option Delivery
delivery_of (step.Hear task number at) = Some sent.Grant
delivery_of (step.Free number at) = Some sent.Note
delivery_of (step.Check task number at) = Some sent.Handle
delivery_of (step.Learn clerk generation) = Some sent.Published
delivery_of _ = None

-- of a step that delivers what was not made: how much was made of it
abbrev pub unsent_reason : Job → Past → Step → Refusal → Option StepReason
unsent_reason job past s refusal.NotSent = option_map (λ delivery. why.Made (greatest_made (from_start job) (calls_in job past) delivery)) (delivery_of s)
unsent_reason job past s _ = None

-- the reason of a step that makes a call, and of one that makes none
abbrev pub IsReasonBy : Job → Past → Step → Result ClusterCall Refusal → Reply → Option StepReason → Type 0
IsReasonBy job past s (Ok made) answer reason = IsCallReason (from_start job) (calls_in job past) (placed_in job past) made (answered answer) reason
IsReasonBy job past s (Err why) answer reason = reason ≡ unsent_reason job past s why

-- the reason of the reply to a step, by the steps before it
abbrev pub IsStepReason : Job → Past → Step → Reply → Option StepReason → Type 0
IsStepReason job past s answer reason = IsReasonBy job past s (call_of job past (calls_in job past) s) answer reason

-- WARNINGS

-- the step is near to all steps before it; or this is the greatest reading of the table's clock in these, and it is too far above that of the step
abbrev pub IsUntimelyAt : ℕ → Reading → List Reading → Option ℕ → Type 0
IsUntimelyAt skew now before untimely =
    MatchOption untimely (AllByRecursion (IsNear skew now) before) (λ greatest. (greatest ≡ greatest_reading before) × IsBehind skew now greatest)

-- the committed generation, if a task does not own a key in it
abbrev pub not_owner_at : Standing → ℕ → ℕ → Option ℕ
not_owner_at t task key = if is_among (owners_of (slices_of t.committed) key) task then None else Some (generation_of t.committed)

-- the same of a `serve` that was allowed
abbrev pub not_owner_of : Standing → Step → Reply → Option ℕ
not_owner_of t (step.Serve task key at) answer = if is_served answer then not_owner_at t task (slice_key key) else None
not_owner_of t _ answer = None

-- LINES

-- what is told of a step that follows these
pub record IsLine (job : Job) (past : Past) (s : Step) (line : TraceLine) : Type 0 where
  pub number : line.step ≡ length past + 1
  pub answered : line.reply ≢ reply.NoMemory
  pub delivers : line.delivered ≡ delivered_in (calls_in job past) s
  pub reason : IsStepReason job past s line.reply line.reason
  pub untimely : IsUntimelyAt job.policy.skew (reading s) (map reading (steps_of past)) line.untimely
  pub not_owner : line.not_owner ≡ not_owner_of (standing job.policy (calls_in job past)) s line.reply

-- a line for each step of a past, both newest first, with its reply
abbrev pub AreLines : Job → Past → List TraceLine → Type 0
AreLines job [] [] = ⊤
AreLines job (e ∷ past) (line ∷ lines) = (line.reply ≡ e.reply) × IsLine job past e.step line × AreLines job past lines
AreLines job _ _ = ⊥
