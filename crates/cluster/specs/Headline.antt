-- Who may serve a key, who owns it, and from when to when a handle is held. Keys are slice keys.
use Rattle.std.specs.Prelude.{◌≡◌, ℕ, IsTrue, ◌∷◌, ◌++◌}
use Rattle.assignment.specs.Owners.{owns}
use Rattle.grants.specs.Assignments.{slices_of}
use Rattle.lease_table.specs.Calls.{committed_in}
use Rattle.key_handle.specs.declared.handle.KeyHandle.{KeyHandle}
use Rattle.slicelet.specs.Rules.{is_allowed}
use Rattle.job_calls.specs.Jobs.{Job}
use Rattle.job_calls.specs.declared.call.ClusterCall.TheVariants as call
use Rattle.job_calls.specs.declared.reply.ClusterReply.TheVariants as reply
use Rattle.job_calls.specs.declared.timing.Reading.TheVariants.{TaskClock}
use Rattle.cluster.specs.Timing.{IsTimely}
use Rattle.cluster.specs.Pasts.{Event, event, Past, readings, table_calls}
use Rattle.cluster.specs.Replies.{rule_in}

-- a task may serve a key now: at some reading of its clock that is timely the written rule allows the key, on the calls that it accepted
abbrev pub MayServe : Job → Past → ℕ → ℕ → Type 0
MayServe job past task key = (at : ℕ) × IsTimely job.policy.skew (TaskClock at ∷ readings past) × IsTrue (is_allowed (rule_in past task key at))

-- a task owns a key in the committed assignment
abbrev pub IsOwner : Past → ℕ → ℕ → Type 0
IsOwner past task key = IsTrue (owns (slices_of (committed_in (table_calls past))) key task)

-- a `hold` was told a handle
pub record IsHold (e : Event) (handle : KeyHandle) : Type 0 where
  pub task : ℕ
  pub key : ℕ
  pub at : ℕ
  pub is : e ≡ event (call.Hold task key at) (reply.Holding handle)

-- a `check` by a task was told that a handle is continuous
pub record IsContinuousCheck (e : Event) (task : ℕ) (handle : KeyHandle) : Type 0 where
  pub at : ℕ
  pub is : e ≡ event (call.Check task handle at) reply.Continuous

-- a point of a run from the `hold` of a handle to a `check` by a task that found it continuous:
-- at the earliest just before the one, and at the latest just after the other
pub record IsWhileHeld (run past : Past) (task : ℕ) (handle : KeyHandle) : Type 0 where
  pub before : Past
  pub hold : Event
  pub between : Past
  pub check : Event
  pub later : Past
  pub whole : run ≡ later ++ check ∷ (between ++ hold ∷ before)
  pub holds : IsHold hold handle
  pub checks : IsContinuousCheck check task handle
  pub since : Past
  pub from_hold : past ≡ since ++ before
  pub rest : Past
  pub up_to_check : check ∷ (between ++ hold ∷ before) ≡ rest ++ past
