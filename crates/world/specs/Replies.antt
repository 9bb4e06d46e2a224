-- What each step is answered, by the steps before it.
use Rattle.std.specs.Prelude.{ℕ, ◌+◌, Bool, true, false, List, [], length, map, Option, Some, None, Result, Ok, Err, if◌then◌else◌}
use Rattle.std.specs.List.{range_with_len}
use Rattle.slice_ranges.specs.Hash.{slice_key}
use Rattle.assignment.specs.declared.error.AssignmentError.{AssignmentError}
use Rattle.assignment.specs.Slices.{Slicing, refusal_of}
use Rattle.assignment.specs.Owners.{owners_of}
use Rattle.lease_table.specs.Tables.{phase_of}
use Rattle.machines.specs.Numbers.{is_within}
use Rattle.job_calls.specs.declared.call.ClusterCall.{ClusterCall}
use Rattle.cluster.specs.Pasts.{Past as ClusterPast, standing}
use Rattle.cluster.specs.Deliveries.{notes_made, handles_made}
use Rattle.cluster.specs.Replies.{reply_to as cluster_reply}
use Rattle.load_ledger.specs.Shares.{Share, add_step}
use Rattle.load_ledger.specs.Books.{task_total, book_with, book_of, gather_step}
use Rattle.weighted_move.specs.declared.slice_plan.Plan.{Plan}
use Rattle.weighted_move.specs.declared.error.PlanError.{PlanError}
use Rattle.weighted_move.specs.Plans.{plan_refusal}
use Rattle.assigner.specs.Terms.{Keeping}
use Rattle.assigner.specs.Actions.{next_action}
use Rattle.world.specs.Jobs.{Job}
use Rattle.world.specs.declared.step.Step.{Step}
use Rattle.world.specs.declared.step.Step.TheVariants as step
use Rattle.replies.specs.declared.reply.Reply.{Reply}
use Rattle.replies.specs.declared.reply.Reply.TheVariants as reply
use Rattle.replies.specs.declared.reply.Refusal.{Refusal}
use Rattle.replies.specs.declared.reply.Refusal.TheVariants as refusal
use Rattle.replies.specs.declared.told.Named.{Named}
use Rattle.replies.specs.declared.told.NextNumbers.{NextNumbers}
use Rattle.replies.specs.Told.{numbers_after, told_as}
use Rattle.world.specs.Pasts.{Past}
use Rattle.world.specs.Front.{draft_of, kept_term, share_of, shares_in, gathers_in}
use Rattle.world.specs.Calls.{call_of, calls_in}
use Rattle.world.specs.Judging.{judge_reply}

-- WHAT A STEP NAMES OF ITS CALL

-- the life that a step names
abbrev pub life_in : Step → ℕ
life_in (step.Start task life at) = life
life_in _ = 0

-- the number that a step names, of a grant or of a generation
abbrev pub number_in : Step → ℕ
number_in (step.Propose assigner generation slices at) = generation
number_in (step.Hear task number at) = number
number_in (step.Learn clerk generation) = generation
number_in _ = 0

-- a step renews a job term
abbrev pub renews : Step → Bool
renews (step.Renew assigner at) = true
renews _ = false

abbrev pub named : Step → Named
named s = record { life = life_in s; number = number_in s; renews = renews s }

-- WHAT THE MACHINES ANSWER

-- the numbers that the next note and the next handle get
abbrev pub next_numbers : ClusterPast → NextNumbers
next_numbers calls = numbers_after (length (notes_made calls)) (length (handles_made calls))

-- a step that makes a call is told what the machines answer, and else why it makes none
abbrev pub reply_by_call : Job → ClusterPast → Step → Bool → Result ClusterCall Refusal → Reply
reply_by_call job calls s kept (Ok made) = told_as (named s) (next_numbers calls) (cluster_reply job calls made kept)
reply_by_call job calls s kept (Err why) = reply.Refused why

-- WHAT IS ANSWERED WITHOUT THE MACHINES

-- an actor of the job answers, and there is no other
abbrev pub by_actor : ℕ → ℕ → Reply → Reply
by_actor number most answer = if is_within number most then answer else reply.Refused refusal.NoActor

-- an answer of a layer below as a reply
abbrev pub from_layer : {M A E : Type 0} → (E → Refusal) → (A → Reply) → Result (M × A) E → Reply
from_layer refused name (Ok p) = name p.1
from_layer refused name (Err why) = reply.Refused (refused why)

-- `assign` builds an assignment
abbrev pub if_built : Option AssignmentError → Reply → Reply
if_built None answer = answer
if_built (Some why) answer = reply.Refused (refusal.Slices why)

-- `owners`, under this draft or none
abbrev pub owners_reply : Option Slicing → ℕ → Reply
owners_reply None key = reply.Refused refusal.NoDraft
owners_reply (Some draft) key = reply.Owners (owners_of draft.slices key)

-- an assigner, with the term that it keeps
abbrev pub assigner_of : Job → Past → ℕ → Keeping
assigner_of job past assigner = record { id = assigner; job_term = job.policy.job; term = kept_term assigner past }

-- how much work each task has done, by the shares that were gathered
abbrev pub book_in : Job → Past → List ℕ
book_in job past = book_of (gathers_in job.tasks past)

-- `gather`, under this draft or none: the load of each slice, and the totals of so many tasks
abbrev pub totals_in : ℕ → List ℕ → List ℕ
totals_in many book = map (task_total book) (range_with_len 1 many)

abbrev pub gather_reply : Option Slicing → ℕ → List Share → List ℕ → Reply
gather_reply None many shares book = reply.Refused refusal.NoDraft
gather_reply (Some draft) many shares book = from_layer refusal.Load (λ loads. reply.Gathered loads (totals_in many (book_with shares book))) (gather_step shares draft.slices book)

-- `plan`, under this draft or none, where this is the plan
abbrev pub planned : Option PlanError → Plan → Reply
planned None plan = reply.Planned plan
planned (Some why) plan = reply.Refused (refusal.Plan why)

abbrev pub plan_reply : Option Slicing → List ℕ → List ℕ → Plan → Reply
plan_reply None loads tasks plan = reply.Refused refusal.NoDraft
plan_reply (Some draft) loads tasks plan = planned (plan_refusal draft.slices loads tasks) plan

-- what decides a reply where the steps before do not name it: whether the handle of a `check` is continuous, and the plan of a `plan`
pub data Outcome : Type 0 where
  Plain : Outcome
  Checked : Bool → Outcome
  Planned : Plan → Outcome

-- whether a handle is continuous, by the outcome of its `check`; no reply rests on it where the step is another
abbrev pub is_continuous_in : Outcome → Bool
is_continuous_in (Checked kept) = kept
is_continuous_in _ = false

-- the plan, by the outcome of its `plan`; no reply rests on it where the step is another
abbrev pub plan_in : Outcome → Plan
plan_in (Planned plan) = plan
plan_in _ = record { slices = []; moves = [] }

-- what a step is answered, where this is its outcome
abbrev pub reply_to : Job → Past → Step → Outcome → Reply
reply_to job past (step.Hash key) outcome = reply.Key (slice_key key)
reply_to job past (step.Assign generation slices) outcome = if_built (refusal_of slices) (reply.Assigned generation (length slices))
reply_to job past (step.Owners key) outcome = owners_reply (draft_of past) (slice_key key)
reply_to job past (step.Judge question) outcome = judge_reply question (slice_key question.key)
reply_to job past (step.Load task key weight) outcome = by_actor task job.tasks (from_layer refusal.Load reply.Recorded (add_step (slice_key key) weight (share_of past task)))
reply_to job past step.Gather outcome = gather_reply (draft_of past) job.tasks (shares_in job.tasks past) (book_in job past)
reply_to job past (step.Plan loads tasks bounds) outcome = plan_reply (draft_of past) loads tasks (plan_in outcome)
reply_to job past (step.Next assigner at wanted) outcome =
    by_actor assigner job.assigners (reply.Next (next_action (assigner_of job past assigner) (record { reading = at; phase = phase_of (standing job.policy (calls_in job past)); wanted = wanted })))
reply_to job past (step.DropTerm assigner) outcome = by_actor assigner job.assigners reply.TermDropped
reply_to job past s outcome = reply_by_call job (calls_in job past) s (is_continuous_in outcome) (call_of job past (calls_in job past) s)
