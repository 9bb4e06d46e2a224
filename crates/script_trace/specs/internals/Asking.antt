-- What a step asks of the machines, by the call that it makes, and by what it delivers.
use Rattle.std.specs.Prelude.{ℕ, Bool, false, Option, Some, None, Result, Ok, Err, is_none, is_some, if◌then◌else◌}
use Rattle.machines.specs.Numbers.{is_within}
use Rattle.slice_ranges.specs.Hash.{slice_key}
use Rattle.assignment.specs.Slices.{refusal_of}
use Rattle.grants.specs.declared.slicelet_call.SliceletCall.TheVariants.{Start, Hear, Release}
use Rattle.job_calls.specs.declared.call.ClusterCall.{ClusterCall}
use Rattle.job_calls.specs.declared.call.ClusterCall.TheVariants as call
use Rattle.job_calls.specs.Jobs.{Job}
use Rattle.cluster.specs.Pasts.{Past as Calls, published}
use Rattle.reasons.specs.declared.made.Delivery.{Delivery}
use Rattle.reasons.specs.declared.made.Delivery.TheVariants as sent
use Rattle.reasons.specs.declared.question.Question.{Question}
use Rattle.reasons.specs.declared.question.Question.TheVariants as question
use Rattle.reasons.specs.Questions.{question_of}
use Rattle.replies.specs.declared.reply.Refusal.{Refusal}
use Rattle.replies.specs.declared.reply.Refusal.TheVariants as refusal
use Rattle.world.specs.declared.step.Step.{Step}
use Rattle.world.specs.declared.step.Step.TheVariants as step
use Rattle.script_trace.specs.declared.asked.Asked.{Asked}
use Rattle.script_trace.specs.declared.asked.Asked.TheVariants as asked
use Rattle.script_trace.specs.declared.delivered.Delivered.{Delivered}
use Rattle.script_trace.specs.declared.delivered.Delivered.TheVariants as delivered
use Rattle.script_trace.specs.Lines.{delivery_of}

-- BY THE CALL

-- a step without a call delivers what was not made, or has another reason
abbrev pub asked_without : Refusal → Option Delivery → Asked
asked_without refusal.NotSent (Some delivery) = asked.Unsent delivery
asked_without _ _ = asked.Nothing

abbrev pub asked_in : Step → Result ClusterCall Refusal → Asked
asked_in s (Ok made) = asked.Call (question_of made)
asked_in s (Err why) = asked_without why (delivery_of s)

-- the call that changes what a task holds, if it is one
abbrev pub of_task : ClusterCall → Option ClusterCall
of_task (call.Task task c) = Some (call.Task task c)
of_task _ = None

abbrev pub task_call_in : Result ClusterCall Refusal → Option ClusterCall
task_call_in (Ok made) = of_task made
task_call_in (Err why) = None

-- BY WHAT IS DELIVERED

abbrev pub asked_if : Bool → Asked → Asked
asked_if of_job a = if of_job then a else asked.Nothing

abbrev pub if_made : Bool → Delivery → Question → Asked
if_made is_made delivery q = if is_made then asked.Call q else asked.Unsent delivery

abbrev pub to_hear : ℕ → Option Delivered → Asked
to_hear task (Some (delivered.Grant grant)) = asked.Call (question.Hear task grant.lease.kind)
to_hear task _ = asked.Unsent sent.Grant

abbrev pub to_check : ℕ → Option Delivered → ℕ → Asked
to_check task (Some (delivered.Handle handle)) at = asked.Call (question.Check task handle at)
to_check task _ at = asked.Unsent sent.Handle

-- the slices that a step proposes make an assignment, or the one that it delivers was published
abbrev pub has_assignment : Calls → Step → Bool
has_assignment calls (step.Propose assigner generation slices at) = is_none (refusal_of slices)
has_assignment calls (step.Learn clerk generation) = is_some (published generation calls)
has_assignment calls _ = false

abbrev pub asked_of : Job → Step → Option Delivered → Bool → Asked
asked_of job (step.Take assigner at) d p = asked_if (is_within assigner job.assigners) (asked.Call question.Take)
asked_of job (step.Renew assigner at) d p = asked_if (is_within assigner job.assigners) (asked.Call question.Pass)
asked_of job (step.Propose assigner generation slices at) d p = asked_if (is_within assigner job.assigners) (asked_if p (asked.Call question.Pass))
asked_of job (step.Commit assigner at) d p = asked_if (is_within assigner job.assigners) (asked.Call (question.Commit at))
asked_of job step.Phase d p = asked.Call question.Other
asked_of job step.Rows d p = asked.Call question.Other
asked_of job (step.Grant task life at) d p = asked_if (is_within task job.tasks) (asked.Call question.Table)
asked_of job (step.Free number at) d p = if_made (is_some d) sent.Note question.Table
asked_of job step.Lose d p = asked.Call question.Table
asked_of job (step.Start task life at) d p = asked.Call (question.Begin task)
asked_of job (step.Hear task number at) d p = asked_if (is_within task job.tasks) (to_hear task d)
asked_of job (step.Release task kind at) d p = asked.Call (question.Release task)
asked_of job (step.Serve task key at) d p = asked.Call (question.Key task (slice_key key) at)
asked_of job (step.Hold task key at) d p = asked.Call (question.Key task (slice_key key) at)
asked_of job (step.Check task number at) d p = asked_if (is_within task job.tasks) (to_check task d at)
asked_of job (step.Learn clerk generation) d p = asked_if (is_within clerk job.clerks) (if_made p sent.Published question.Other)
asked_of job (step.Look clerk key) d p = asked.Call question.Other
asked_of job (step.Forget clerk) d p = asked.Call question.Other
asked_of job _ d p = asked.Nothing

abbrev pub heard_by : ℕ → Option Delivered → ℕ → Option ClusterCall
heard_by task (Some (delivered.Grant grant)) at = Some (call.Task task (Hear grant at))
heard_by task _ at = None

abbrev pub task_call_of : Job → Step → Option Delivered → Option ClusterCall
task_call_of job (step.Start task life at) d = Some (call.Task task (Start life at))
task_call_of job (step.Hear task number at) d = if is_within task job.tasks then heard_by task d at else None
task_call_of job (step.Release task kind at) d = Some (call.Task task (Release kind at))
task_call_of job _ d = None
