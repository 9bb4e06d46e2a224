-- What the machines of a job stand at, and the job that goes on from it.
use Rattle.std.specs.Prelude.{◌≡◌, ℕ, ◌+◌, ◌-◌, ◌^◌, ◌||◌, true, false, not, nat_lt, nat_eq, List, [], ◌∷◌, ◌++◌, Option, Some, None, length, reverse, slice_get, option_map, if◌then◌else◌}
use Rattle.std.specs.List.{list_any, AllByRecursion}
use Rattle.machines.specs.Numbers.{is_within}
use Rattle.machines.specs.Refusals.{when, first_of}
use Rattle.machines.specs.declared.machine.Trouble.{Trouble}
use Rattle.machines.specs.declared.machine.Trouble.TheVariants.{Refused, NoMemory}
use Rattle.grants.specs.declared.values.ReleaseNote.{ReleaseNote}
use Rattle.lease_table.specs.Snapshots.{IsSnapshotOf as IsTableSnapshotOf}
use Rattle.grants.specs.Snapshots.{snapshot_checks, newest_in}
use Rattle.key_handle.specs.declared.handle.KeyHandle.{KeyHandle}
use Rattle.grants.specs.declared.slicelet_call.SliceletCall.{SliceletCall}
use Rattle.grants.specs.declared.slicelet_call.SliceletCall.TheVariants.{Resume}
use Rattle.slicelet.specs.Accepted.{AreAccepted}
use Rattle.slicelet.specs.States.{state_after}
use Rattle.job_calls.specs.Jobs.{Job}
use Rattle.job_calls.specs.Snapshots.{resume_checks}
use Rattle.job_calls.specs.declared.error.ClusterError.TheVariants as error
use Rattle.job_calls.specs.declared.reply.ClusterReply.TheVariants as reply
use Rattle.job_calls.specs.declared.snapshot.TaskSnapshot.{TaskSnapshot}
use Rattle.job_calls.specs.declared.snapshot.ClusterSnapshot.{ClusterSnapshot}
use Rattle.job_calls.specs.declared.snapshot.ResumeFault.{ResumeFault}
use Rattle.job_calls.specs.declared.snapshot.ResumeFault.TheVariants as fault
use Rattle.cluster.specs.ActorLists.{AreActors}
use Rattle.cluster.specs.Made.{with_note, with_handle, notes_made, handles_made, same_note, same_handle, is_made, is_given}
use Rattle.cluster.specs.Pasts.{Past, table_calls, standing, grants, history, newest_learnt, readings}
use Rattle.cluster.specs.Runs.{IsRun}
use Rattle.cluster.specs.Timing.{greatest_reading}
use Rattle.cluster.specs.internals.Proposals.{proposals_in}
use Rattle.cluster.specs.continued.Jobs.{Continued, Forgotten}
use Rattle.cluster.specs.continued.Clusters.{AreAfter}

-- WHAT IS REMEMBERED

-- of earlier calls: how many of the first grants and proposals are forgotten, and which notes and handles are remembered
pub record Remembered : Type 0 where
  pub grants : ℕ
  pub proposals : ℕ
  pub notes : List ReleaseNote
  pub handles : List KeyHandle

-- the notes and the handles that were made after the first calls, so many
abbrev pub notes_since : ℕ → Past → List ReleaseNote
notes_since first [] = []
notes_since first (e ∷ past) = if nat_lt (length past) first then [] else with_note e.call e.reply (notes_since first past)

abbrev pub handles_since : ℕ → Past → List KeyHandle
handles_since first [] = []
handles_since first (e ∷ past) = if nat_lt (length past) first then [] else with_handle e.call e.reply (handles_since first past)

-- once the first calls are made, so many, all that they made is forgotten but what is remembered
abbrev pub forgotten_by : ℕ → Remembered → Forgotten
forgotten_by first r = record {
  grant = λ past number. if nat_lt (length past) first then false else is_within number r.grants;
  note = λ past note.
      if nat_lt (length past) first then false else not (list_any (same_note note) (notes_since first past) || list_any (same_note note) r.notes);
  handle = λ past handle.
      if nat_lt (length past) first then false
      else not (list_any (same_handle handle) (handles_since first past) || list_any (same_handle handle) r.handles);
  generation = λ past generation. if nat_lt (length past) first then false else is_within generation r.proposals;
}

-- the job that goes on from these calls
abbrev pub continued_from : Job → Past → Remembered → Continued
continued_from job past r = record {
  policy = job.policy;
  assigners = job.assigners;
  tasks = job.tasks;
  clerks = job.clerks;
  earlier = past;
  forgotten = forgotten_by (length past) r;
}

-- no reply was that something was not sent
abbrev pub IsAllSent : Past → Type 0
IsAllSent past = AllByRecursion (λ e. e.reply ≡ reply.Refused error.NotSent → ⊥) past

-- SNAPSHOTS

-- the calls of a task's process, newest first, after the one that began it
abbrev pub calls_in : TaskSnapshot → List SliceletCall
calls_in task = reverse task.calls ++ Resume task.life ∷ []

-- a task's slicelet stands where these calls lead, and accepts each of them
pub record IsTaskAt (past : Past) (task : ℕ) (snapshot : TaskSnapshot) : Type 0 where
  pub state : history task past ≡ state_after task (calls_in snapshot)
  pub accepted : AreAccepted task (calls_in snapshot)

-- what of earlier calls a snapshot remembers
abbrev pub remembered_in : ClusterSnapshot → Remembered
remembered_in s = record {
  grants = s.table.kept.granted - length s.grants.items;
  proposals = newest_in s.table.kept - length s.assignments.items;
  notes = s.notes.items;
  handles = s.handles.items;
}

-- the machines of a job stand at this after a run
pub record IsSnapshotOf (job : Job) (past : Past) (s : ClusterSnapshot) : Type 0 where
  pub run : IsRun job past
  pub table : IsTableSnapshotOf (standing job.policy past) s.table
  pub all_tasks : length s.tasks.items ≡ job.tasks
  pub tasks : (i : ℕ) (task : TaskSnapshot) → slice_get s.tasks.items i ≡ Some task → IsTaskAt past (i + 1) task
  pub clerks : AreActors (λ n. newest_learnt n past) job.clerks s.clerks.items
  pub grants : AreAfter (remembered_in s).grants (grants past) s.grants.items
  pub proposals : AreAfter (remembered_in s).proposals (proposals_in (table_calls past)) s.assignments.items
  pub notes : (note : ReleaseNote) → list_any (same_note note) s.notes.items ≡ true → is_made past note ≡ true
  pub handles : (handle : KeyHandle) → list_any (same_handle handle) s.handles.items ≡ true → is_given past handle ≡ true
  pub many_notes : s.notes_made ≡ length (notes_made past)
  pub many_handles : s.handles_made ≡ length (handles_made past)
  pub reading : s.table_reading ≡ greatest_reading (readings past)

-- THE CHECKS

-- the calls of some task are none that a slicelet accepts
pub record HasRefusedTask (tasks : List TaskSnapshot) : Type 0 where
  pub place : ℕ
  pub task : TaskSnapshot
  pub here : slice_get tasks place ≡ Some task
  pub refused : AreAccepted (place + 1) (calls_in task) → ⊥

-- why no machines stand at a snapshot, or cannot be built from it
abbrev pub IsResumeTrouble : Job → ClusterSnapshot → Trouble ResumeFault → Type 0
IsResumeTrouble job s (Refused fault.TaskCalls) = (first_of (resume_checks job s) ≡ None) × HasRefusedTask s.tasks.items
IsResumeTrouble job s (Refused why) = first_of (resume_checks job s) ≡ Some why
IsResumeTrouble job s NoMemory = first_of (resume_checks job s) ≡ None
