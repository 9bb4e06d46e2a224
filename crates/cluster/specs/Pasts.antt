-- What happened so far: calls with their replies, newest first, and what each actor accepted of them.
use Rattle.std.specs.Prelude.{ℕ, ◌==◌, Bool, true, false, List, [], ◌∷◌, map, Option, Some, None, Ok, if◌then◌else◌}
use Rattle.machines.specs.Calls.{answered_call}
use Rattle.assignment.specs.Slices.{Slicing}
use Rattle.grants.specs.declared.table_call.TableCall.{TableCall}
use Rattle.grants.specs.declared.values.Grant.{Grant}
use Rattle.grants.specs.Policies.{Terms}
use Rattle.lease_table.specs.Tables.{Standing}
use Rattle.lease_table.specs.Calls.{AnsweredTableCall, standing_after, grants_sent}
use Rattle.lease_table.specs.Generations.{published_in}
use Rattle.grants.specs.declared.slicelet_call.SliceletCall.{SliceletCall}
use Rattle.slicelet.specs.States.{SliceletState, state_after}
use Rattle.clerk.specs.Knowledge.{accepted_with, greatest_of}
use Rattle.job_calls.specs.declared.call.ClusterCall.{ClusterCall}
use Rattle.job_calls.specs.Readings.{reading}
use Rattle.job_calls.specs.declared.call.ClusterCall.TheVariants as call
use Rattle.job_calls.specs.declared.reply.ClusterReply.{ClusterReply}
use Rattle.job_calls.specs.declared.reply.ClusterReply.TheVariants as reply
use Rattle.job_calls.specs.declared.timing.Reading.{Reading}

-- a call with its reply
pub record Event : Type 0 where
  pub call : ClusterCall
  pub reply : ClusterReply

abbrev pub event : ClusterCall → ClusterReply → Event
event call reply = record { call = call; reply = reply }

-- what happened so far, newest first; a point of a run is such a past
abbrev pub Past : Type 0
Past = List Event

-- a call is accepted unless it is refused
abbrev pub is_accepted : ClusterReply → Bool
is_accepted (reply.Refused why) = false
is_accepted _ = true

-- READINGS

-- whose clocks the calls read, accepted or not, and when
abbrev pub readings : Past → List Reading
readings past = map (λ e. reading e.call) past

-- THE TABLE

-- the calls that the table accepted with its answers, the last one first
abbrev pub with_answer : TableCall → ClusterReply → List AnsweredTableCall → List AnsweredTableCall
with_answer c (reply.Table r) before = answered_call c (Ok r) ∷ before
with_answer c _ before = before

abbrev pub with_table_call : ClusterCall → ClusterReply → List AnsweredTableCall → List AnsweredTableCall
with_table_call (call.Table c) told before = with_answer c told before
with_table_call _ told before = before

abbrev pub table_calls : Past → List AnsweredTableCall
table_calls [] = []
table_calls (e ∷ past) = with_table_call e.call e.reply (table_calls past)

-- what the table stands at
abbrev pub standing : Terms → Past → Standing
standing policy past = standing_after policy (table_calls past)

-- the grants sent
abbrev pub grants : Past → List Grant
grants past = grants_sent (table_calls past)

-- the published assignment of a generation
abbrev pub published : ℕ → Past → Option Slicing
published generation past = published_in generation (table_calls past)

-- TASKS

-- the calls that a task accepted, the last one first
abbrev pub with_task_call : ℕ → ClusterCall → ClusterReply → List SliceletCall → List SliceletCall
with_task_call task (call.Task by c) told before = if by == task then (if is_accepted told then c ∷ before else before) else before
with_task_call task _ told before = before

abbrev pub task_calls : ℕ → Past → List SliceletCall
task_calls task [] = []
task_calls task (e ∷ past) = with_task_call task e.call e.reply (task_calls task past)

-- what a task's slicelet stands at
abbrev pub history : ℕ → Past → SliceletState
history task past = state_after task (task_calls task past)

-- CLERKS

-- the assignments that a clerk accepted since it last forgot, the last one first
abbrev pub with_clerk_call : ℕ → ClusterCall → ClusterReply → List Slicing → List Slicing
with_clerk_call clerk (call.Clerk by c) told before = if by == clerk then (if is_accepted told then accepted_with c before else before) else before
with_clerk_call clerk _ told before = before

abbrev pub learnt_by : ℕ → Past → List Slicing
learnt_by clerk [] = []
learnt_by clerk (e ∷ past) = with_clerk_call clerk e.call e.reply (learnt_by clerk past)

-- what a clerk answers by: the one of greatest generation
abbrev pub newest_learnt : ℕ → Past → Option Slicing
newest_learnt clerk past = greatest_of (learnt_by clerk past)
