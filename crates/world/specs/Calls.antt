-- The call that a step makes of a job's machines, what they answered it, and the past of the cluster that a past of steps makes.
use Rattle.std.specs.Prelude.{ℕ, Bool, false, List, [], ◌∷◌, reverse, Option, Some, None, Result, Ok, Err, if◌then◌else◌}
use Rattle.machines.specs.Numbers.{is_within}
use Rattle.slice_ranges.specs.Hash.{slice_key}
use Rattle.assignment.specs.declared.error.AssignmentError.{AssignmentError}
use Rattle.assignment.specs.Slices.{refusal_of}
use Rattle.assignment.specs.Owners.{built}
use Rattle.grants.specs.declared.table_call.TableCall.TheVariants as asked
use Rattle.grants.specs.declared.table_call.TableReply.TheVariants as table
use Rattle.grants.specs.declared.slicelet_call.SliceletCall.TheVariants.{Start, Hear, Release}
use Rattle.grants.specs.declared.slicelet_call.SliceletReply.TheVariants as slicelet
use Rattle.key_handle.specs.declared.handle.KeyHandle.{KeyHandle}
use Rattle.slicelet.specs.Calls.{is_resume}
use Rattle.slicelet.specs.States.{SliceletState}
use Rattle.clerk.specs.declared.call.ClerkCall.TheVariants.{Learn, Forget}
use Rattle.clerk.specs.declared.call.ClerkReply.TheVariants as clerk
use Rattle.job_calls.specs.declared.call.ClusterCall.{ClusterCall}
use Rattle.job_calls.specs.declared.call.ClusterCall.TheVariants as call
use Rattle.job_calls.specs.declared.error.ClusterError.{ClusterError}
use Rattle.job_calls.specs.declared.error.ClusterError.TheVariants as error
use Rattle.job_calls.specs.declared.reply.ClusterReply.{ClusterReply}
use Rattle.job_calls.specs.declared.reply.ClusterReply.TheVariants as machine
use Rattle.cluster.specs.Numbers.{with_number}
use Rattle.cluster.specs.Pasts.{Event as ClusterEvent, event as cluster_event, Past as ClusterPast, grants, published, history as history_in}
use Rattle.cluster.specs.Deliveries.{notes_made, handles_made as handles_given}
use Rattle.world.specs.Jobs.{Job}
use Rattle.world.specs.declared.step.Step.{Step}
use Rattle.world.specs.declared.step.Step.TheVariants as step
use Rattle.replies.specs.declared.reply.Reply.{Reply}
use Rattle.replies.specs.declared.reply.Reply.TheVariants as reply
use Rattle.replies.specs.declared.reply.Refusal.{Refusal}
use Rattle.replies.specs.declared.reply.Refusal.TheVariants as refusal
use Rattle.world.specs.Pasts.{Past}
use Rattle.world.specs.Front.{kept_number}

-- an actor of the job makes its call, and there is no other
abbrev pub if_actor : ℕ → ℕ → Result ClusterCall Refusal → Result ClusterCall Refusal
if_actor number most made = if is_within number most then made else Err refusal.NoActor

-- what was made is delivered, and nothing else can be
abbrev pub if_sent : {A : Type 0} → Option A → (A → ClusterCall) → Result ClusterCall Refusal
if_sent None deliver = Err refusal.NotSent
if_sent (Some made) deliver = Ok (deliver made)

-- `propose` builds an assignment first
abbrev pub if_built : Option AssignmentError → ClusterCall → Result ClusterCall Refusal
if_built None made = Ok made
if_built (Some why) made = Err (refusal.Slices why)

-- the call that a step makes after these calls, or why it makes none: what it delivers is found by its number, and an assigner passes the number of the
-- term that it keeps; a step that is no matter of the machines delivers nothing to them
abbrev pub call_of : Job → Past → ClusterPast → Step → Result ClusterCall Refusal
call_of job past calls (step.Take assigner at) = if_actor assigner job.assigners (Ok (call.Table (asked.JobTake assigner at)))
call_of job past calls (step.Renew assigner at) = if_actor assigner job.assigners (Ok (call.Table (asked.JobRenew (kept_number assigner past) at)))
call_of job past calls (step.Propose assigner generation slices at) =
    if_actor assigner job.assigners (if_built (refusal_of slices) (call.Table (asked.Propose (kept_number assigner past) (built generation slices) at)))
call_of job past calls (step.Commit assigner at) = if_actor assigner job.assigners (Ok (call.Table (asked.Commit (kept_number assigner past) at)))
call_of job past calls step.Phase = Ok call.Phase
call_of job past calls step.Rows = Ok call.Rows
call_of job past calls (step.Grant task life at) = if_actor task job.tasks (Ok (call.Table (asked.Grant task life at)))
call_of job past calls (step.Free number at) = if_sent (with_number number (reverse (notes_made calls))) (λ note. call.Table (asked.Free note at))
call_of job past calls step.Lose = Ok (call.Table asked.Restart)
call_of job past calls (step.Start task life at) = Ok (call.Task task (Start life at))
call_of job past calls (step.Hear task number at) = if_actor task job.tasks (if_sent (with_number number (grants calls)) (λ grant. call.Task task (Hear grant at)))
call_of job past calls (step.Release task kind at) = Ok (call.Task task (Release kind at))
call_of job past calls (step.Serve task key at) = Ok (call.Serve task (slice_key key) at)
call_of job past calls (step.Hold task key at) = Ok (call.Hold task (slice_key key) at)
call_of job past calls (step.Check task number at) = if_actor task job.tasks (if_sent (with_number number (reverse (handles_given calls))) (λ handle. call.Check task handle at))
call_of job past calls (step.Learn clerk generation) = if_actor clerk job.clerks (if_sent (published generation calls) (λ slicing. call.Clerk clerk (Learn slicing)))
call_of job past calls (step.Look clerk key) = Ok (call.Look clerk (slice_key key))
call_of job past calls (step.Forget clerk) = Ok (call.Clerk clerk Forget)
call_of job past calls _ = Err refusal.NotSent

-- a call begins a new process of a task; no step makes such a call
abbrev pub resumes : ClusterCall → Bool
resumes (call.Task task c) = is_resume c
resumes _ = false

-- why the machines refused a call, by what its step was told; a step without a call has other reasons
abbrev pub refused_by : Refusal → ClusterError
refused_by refusal.NotSent = error.NotSent
refused_by (refusal.Table why) = error.Table why
refused_by (refusal.Slicelet why) = error.Slicelet why
refused_by refusal.Stranger = error.Stranger
refused_by (refusal.Clerk why) = error.Clerk why
refused_by refusal.Unknown = error.Unknown
refused_by _ = error.NoActor

-- what the machines answered a call, by what its step was told; a step without a call has other replies
abbrev pub answered : Reply → ClusterReply
answered (reply.Term term) = machine.Table (table.Term term)
answered (reply.Renewed term) = machine.Table (table.Term term)
answered (reply.Proposed generation) = machine.Table table.Proposed
answered (reply.Committed generation) = machine.Table (table.Committed generation)
answered (reply.Granted grant) = machine.Table (table.Granted grant)
answered (reply.Freed rows) = machine.Table (table.Freed rows)
answered (reply.Lost rows) = machine.Table (table.Lost rows)
answered (reply.Started life) = machine.Task slicelet.Started
answered (reply.Heard number) = machine.Task slicelet.Heard
answered (reply.Released number note) = machine.Task (slicelet.Released note)
answered (reply.Learnt generation) = machine.Clerk clerk.Learnt
answered reply.Forgotten = machine.Clerk clerk.Forgotten
answered (reply.Phase phase) = machine.Phase phase
answered (reply.Rows rows) = machine.Rows rows
answered (reply.Verdict verdict) = machine.Verdict verdict
answered (reply.Holding number handle) = machine.Holding handle
answered reply.Continuous = machine.Continuous
answered reply.Broken = machine.Broken
answered (reply.Found found) = machine.Found found
answered (reply.Refused why) = machine.Refused (refused_by why)
answered _ = machine.Refused error.NoActor

-- a step that is out of memory calls no machine
abbrev pub unless_out_of_memory : Reply → ClusterEvent → ClusterPast → ClusterPast
unless_out_of_memory reply.NoMemory e calls = calls
unless_out_of_memory _ e calls = e ∷ calls

-- calls with their replies, and that of one more step, if it makes one
abbrev pub with_call : Reply → Result ClusterCall Refusal → ClusterPast → ClusterPast
with_call answer (Ok made) calls = unless_out_of_memory answer (cluster_event made (answered answer)) calls
with_call answer (Err why) calls = calls

-- the calls of the machines that the steps of a past made, with their replies
abbrev pub calls_in : Job → Past → ClusterPast
calls_in job [] = []
calls_in job (e ∷ past) = with_call e.reply (call_of job past (calls_in job past) e.step) (calls_in job past)

-- the handles made so far, in order, and what a task's slicelet stands at
abbrev pub handles_made : Job → Past → List KeyHandle
handles_made job past = reverse (handles_given (calls_in job past))

abbrev pub history : Job → ℕ → Past → SliceletState
history job task past = history_in task (calls_in job past)
