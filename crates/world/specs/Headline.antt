-- What holds of every run, in the words of whoever runs a service.
use Rattle.std.specs.Prelude.{◌≡◌, ℕ, Bool, false, IsTrue, List, ◌∷◌, ◌++◌, Some, None, ◌↔◌}
use Rattle.slice_ranges.specs.Hash.{slice_key}
use Rattle.assignment.specs.Slices.{Slicing, refusal_of}
use Rattle.machines.specs.Numbers.{is_within}
use Rattle.key_handle.specs.declared.handle.KeyHandle.{KeyHandle}
use Rattle.slicelet.specs.Rules.{is_allowed}
use Rattle.slicelet.specs.Continuity.{IsContinuous}
use Rattle.cluster.specs.Pasts.{task_calls}
use Rattle.cluster.specs.Replies.{covers, rule_in}
use Rattle.cluster.specs.Headline.{IsOwner as IsOwnerIn}
use Rattle.weighted_move.specs.declared.slice_plan.Plan.{Plan}
use Rattle.world.specs.Jobs.{Job}
use Rattle.world.specs.declared.step.Step.TheVariants as step
use Rattle.replies.specs.declared.reply.Reply.{Reply}
use Rattle.replies.specs.declared.reply.Reply.TheVariants as reply
use Rattle.world.specs.Pasts.{Event, event, Past, steps_of, IsTimely}
use Rattle.weighted_move.specs.Bounds.{Bounds}
use Rattle.world.specs.Front.{draft_of}
use Rattle.world.specs.Calls.{calls_in}
use Rattle.world.specs.Runs.{IsPlanOf}

-- a reply serves a key
abbrev pub is_served : Reply → Bool
is_served (reply.Verdict verdict) = is_allowed verdict
is_served _ = false

-- a request is served exactly when the written rule allows its key on what the task was told; a task of the job is told the rule's verdict, whose denial names
-- its ground
pub record IsServedByRule (job : Job) (past : Past) (task : ℕ) (key : List ℕ) (at : ℕ) (answer : Reply) : Type 0 where
  pub served : IsTrue (is_served answer) ↔ IsTrue (is_allowed (rule_in (calls_in job past) task (slice_key key) at))
  pub verdict : IsTrue (is_within task job.tasks) → answer ≡ reply.Verdict (rule_in (calls_in job past) task (slice_key key) at)

-- a handle is continuous exactly when no step since took its key away, and else it is broken
pub record IsCheckedByHistory (job : Job) (past : Past) (task : ℕ) (handle : KeyHandle) (at : ℕ) (answer : Reply) : Type 0 where
  pub continuous : (answer ≡ reply.Continuous) ↔ IsContinuous (covers (calls_in job past) handle.key) (task_calls task (calls_in job past)) handle at
  pub broken : (answer ≡ reply.Broken) ↔ (IsContinuous (covers (calls_in job past) handle.key) (task_calls task (calls_in job past)) handle at → ⊥)

-- a plan was made of the draft, and its slices make an assignment
pub record IsPlannedFromDraft (job : Job) (past : Past) (loads tasks : List ℕ) (bounds : Bounds) (plan : Plan) : Type 0 where
  pub draft : Slicing
  pub drafted : draft_of past ≡ Some draft
  pub planned : IsPlanOf job draft loads tasks bounds plan
  pub accepted : refusal_of plan.slices ≡ None

-- a task may serve a key now: at some reading that keeps the steps timely the written rule allows the key, on what the task was told
abbrev pub MayServe : Job → Past → ℕ → List ℕ → Type 0
MayServe job past task key =
    (at : ℕ) × IsTimely job.policy.skew (step.Serve task key at ∷ steps_of past) × IsTrue (is_allowed (rule_in (calls_in job past) task (slice_key key) at))

-- a task owns a key in the committed assignment
abbrev pub IsOwner : Job → Past → ℕ → List ℕ → Type 0
IsOwner job past task key = IsOwnerIn (calls_in job past) task (slice_key key)

-- a `hold` of a key, or of another of the same hash, was answered with the handle of a number
pub record IsHold (e : Event) (key : List ℕ) (number : ℕ) : Type 0 where
  pub task : ℕ
  pub held : List ℕ
  pub alike : slice_key held ≡ slice_key key
  pub at : ℕ
  pub handle : KeyHandle
  pub is : e ≡ event (step.Hold task held at) (reply.Holding number handle)

-- a `check` by a task was answered that the handle of a number is continuous
pub record IsContinuousCheck (e : Event) (task number : ℕ) : Type 0 where
  pub at : ℕ
  pub is : e ≡ event (step.Check task number at) reply.Continuous

-- a point of a run from the `hold` of a key to a `check` by a task that found its handle continuous:
-- at the earliest just before the one, and at the latest just after the other
pub record IsWhileHeld (run past : Past) (task : ℕ) (key : List ℕ) : Type 0 where
  pub before : Past
  pub hold : Event
  pub between : Past
  pub check : Event
  pub later : Past
  pub whole : run ≡ later ++ check ∷ (between ++ hold ∷ before)
  pub number : ℕ
  pub holds : IsHold hold key number
  pub checks : IsContinuousCheck check task number
  pub since : Past
  pub from_hold : past ≡ since ++ before
  pub rest : Past
  pub up_to_check : check ∷ (between ++ hold ∷ before) ≡ rest ++ past
