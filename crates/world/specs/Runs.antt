-- Runs: each step is answered by the steps before it.
use Rattle.std.specs.Prelude.{◌≡◌, ℕ, Bool, true, false, IsTrue, List, [], ◌∷◌, Some, None, Result, Ok, Err, ⊤, ◌⊎◌}
use Rattle.assignment.specs.Slices.{Slicing}
use Rattle.weighted_move.specs.declared.slice_plan.Plan.{Plan}
use Rattle.weighted_move.specs.Plans.{CanPlan, IsPlan, plan_refusal}
use Rattle.job_calls.specs.declared.call.ClusterCall.{ClusterCall}
use Rattle.cluster.specs.Pasts.{Past as ClusterPast}
use Rattle.cluster.specs.Runs.{IsOutcome as IsClusterOutcome}
use Rattle.world.specs.Jobs.{Job}
use Rattle.world.specs.declared.step.Step.{Step}
use Rattle.world.specs.declared.step.Step.TheVariants as step
use Rattle.replies.specs.declared.reply.Refusal.{Refusal}
use Rattle.replies.specs.declared.reply.Reply.{Reply}
use Rattle.replies.specs.declared.reply.Reply.TheVariants as reply
use Rattle.world.specs.Pasts.{Event, event, Past, is_accepted}
use Rattle.weighted_move.specs.Bounds.{Bounds}
use Rattle.weighted_move.specs.Policies.{plan_terms_of}
use Rattle.world.specs.Front.{draft_of}
use Rattle.world.specs.Calls.{call_of, calls_in}
use Rattle.world.specs.Replies.{Outcome, is_continuous_in, plan_in, reply_to}

-- a plan of a draft for loads and tasks, within bounds and by the numbers of owners of the job: there is one, and this is one
abbrev pub IsPlanOf : Job → Slicing → List ℕ → List ℕ → Bounds → Plan → Type 0
IsPlanOf job draft loads tasks bounds plan =
    CanPlan draft.slices loads tasks (plan_terms_of job.policy.low job.policy.high bounds) × IsPlan draft.slices loads tasks (plan_terms_of job.policy.low job.policy.high bounds) plan

-- the outcome of a call that a step makes; where it makes none, there is none
abbrev pub IsCallOutcome : Job → ClusterPast → Bool → Result ClusterCall Refusal → Type 0
IsCallOutcome job calls kept (Ok made) = IsClusterOutcome job calls made kept
IsCallOutcome job calls kept (Err why) = ⊤

-- a handle that was made, and that the task can have given, is continuous exactly where the outcome of a `check` says so; the outcome of a `plan` that is not refused has a
-- plan of the draft; other steps have no outcome
abbrev pub IsOutcome : Job → Past → Step → Outcome → Type 0
IsOutcome job past (step.Plan loads tasks bounds) outcome =
    (draft : Slicing) → draft_of past ≡ Some draft → plan_refusal draft.slices loads tasks ≡ None → IsPlanOf job draft loads tasks bounds (plan_in outcome)
IsOutcome job past s outcome = IsCallOutcome job (calls_in job past) (is_continuous_in outcome) (call_of job past (calls_in job past) s)

-- a step may be out of memory
abbrev pub takes_memory : Step → Bool
takes_memory (step.Assign generation slices) = true
takes_memory (step.Judge question) = true
takes_memory (step.Propose assigner generation slices at) = true
takes_memory step.Rows = true
takes_memory (step.Grant task life at) = true
takes_memory (step.Hear task number at) = true
takes_memory (step.Release task kind at) = true
takes_memory (step.Hold task key at) = true
takes_memory (step.Learn clerk generation) = true
takes_memory (step.Load task key weight) = true
takes_memory step.Gather = true
takes_memory (step.Plan loads tasks bounds) = true
takes_memory _ = false

-- a reply is the one that the steps before it give
abbrev pub IsAnswer : Job → Past → Event → Type 0
IsAnswer job past e = (outcome : Outcome) × IsOutcome job past e.step outcome × (e.reply ≡ reply_to job past e.step outcome)

-- a reply needs memory where it accepts its step; that of a `hold` only where it gives a handle, and a denial needs none
abbrev pub gives_handle : Reply → Bool
gives_handle (reply.Holding number handle) = true
gives_handle _ = false

abbrev pub needs_memory : Step → Reply → Bool
needs_memory (step.Hold task key at) answer = gives_handle answer
needs_memory _ answer = is_accepted answer

-- a step is out of memory where it takes some, and where its reply would need some, whatever its outcome
abbrev pub IsOutOfMemory : Job → Past → Event → Type 0
IsOutOfMemory job past e = (e.reply ≡ reply.NoMemory) × IsTrue (takes_memory e.step) × ((outcome : Outcome) → IsTrue (needs_memory e.step (reply_to job past e.step outcome)))

-- a reply is the one that the steps before it give, or the step is out of memory
abbrev pub IsReply : Job → Past → Event → Type 0
IsReply job past e = IsAnswer job past e ⊎ IsOutOfMemory job past e

abbrev pub IsRun : Job → Past → Type 0
IsRun job [] = ⊤
IsRun job (e ∷ past) = IsReply job past e × IsRun job past

-- the past after steps with their replies, one after another
abbrev pub past_after : Past → List Step → List Reply → Past
past_after past (s ∷ steps) (r ∷ replies) = past_after (event s r ∷ past) steps replies
past_after past _ _ = past
