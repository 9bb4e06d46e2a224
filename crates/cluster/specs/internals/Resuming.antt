-- How machines are built from what they stand at.
use Rattle.std.specs.Prelude.{◌≡◌, ℕ, ◌+◌, List, [], Some, length, slice_get}
use Rattle.std.specs.List.{list_any}
use Rattle.machines.specs.declared.machine.Trouble.{Trouble}
use Rattle.machines.specs.declared.machine.Trouble.TheVariants.{Refused, NoMemory}
use Rattle.indexmap.specs.IndexSet.{contains}
use Rattle.grants.specs.declared.values.ReleaseNote.{ReleaseNote}
use Rattle.lease_table.specs.Snapshots.{resumed_from}
use Rattle.grants.specs.declared.slicelet_call.SliceletCall.{SliceletCall}
use Rattle.grants.specs.declared.slicelet_error.SliceletError.{SliceletError}
use Rattle.key_handle.specs.declared.handle.KeyHandle.{KeyHandle}
use Rattle.slicelet.specs.Accepted.{AreAccepted}
use Rattle.slicelet.specs.States.{SliceletState, state_after}
use Rattle.job_calls.specs.Jobs.{Job}
use Rattle.cluster.specs.Made.{same_note, same_handle}
use Rattle.cluster.specs.declared.cluster.Cluster.{Cluster}
use Rattle.job_calls.specs.declared.snapshot.ClusterSnapshot.{ClusterSnapshot}
use Rattle.job_calls.specs.declared.snapshot.ResumeFault.{ResumeFault}
use Rattle.job_calls.specs.declared.snapshot.ResumeFault.TheVariants as fault
use Rattle.job_calls.specs.declared.snapshot.TaskSnapshot.{TaskSnapshot}
use Rattle.cluster.specs.continued.Jobs.{Counts}
use Rattle.cluster.specs.continued.Snapshots.{calls_in, remembered_in, HasRefusedTask}

-- THE SLICELETS

-- a task's slicelet stands where these calls lead, and accepted each of them
pub record IsPlayedTo (task : ℕ) (calls : List SliceletCall) (slicelet : SliceletState) : Type 0 where
  pub state : slicelet ≡ state_after task calls
  pub accepted : AreAccepted task calls

-- a slicelet refuses one of these calls, or is out of memory
abbrev pub IsRefused : ℕ → List SliceletCall → Trouble SliceletError → Type 0
IsRefused task calls (Refused why) = AreAccepted task calls → ⊥
IsRefused task calls NoMemory = Unit {0}

-- of the first tasks, so many, each slicelet stands where the calls of its task lead, which it accepts
pub record AreResumed (many : ℕ) (tasks : List TaskSnapshot) (slicelets : List SliceletState) : Type 0 where
  pub all : length slicelets ≡ many
  pub each : (i : ℕ) (task : TaskSnapshot) (slicelet : SliceletState) → slice_get tasks i ≡ Some task → slice_get slicelets i ≡ Some slicelet
      → IsPlayedTo (i + 1) (calls_in task) slicelet

-- some task's calls are refused, or there is no memory
abbrev pub AreRefused : List TaskSnapshot → Trouble ResumeFault → Type 0
AreRefused tasks (Refused why) = (why ≡ fault.TaskCalls) × HasRefusedTask tasks
AreRefused tasks NoMemory = Unit {0}

-- THE CLUSTER

-- how much was made before what is kept: no note and no handle that was made is kept
abbrev pub counts_in : ClusterSnapshot → Counts
counts_in s = record { grants = (remembered_in s).grants; notes = s.notes_made; handles = s.handles_made; proposals = (remembered_in s).proposals }

-- the machines of a job stand at a snapshot, with these slicelets
pub record StandsAt (job : Job) (s : ClusterSnapshot) (slicelets : List SliceletState) (cluster : Cluster) : Type 0 where
  pub same_job : cluster.job ≡ job
  pub table : cluster.table ≡ resumed_from s.table
  pub tasks : cluster.tasks.items ≡ slicelets
  pub clerks : cluster.clerks.items ≡ s.clerks.items
  pub grants : cluster.grants.items ≡ s.grants.items
  pub notes : cluster.notes.items ≡ []
  pub handles : cluster.handles.items ≡ []
  pub earlier : cluster.earlier ≡ counts_in s
  pub known_notes : (note : ReleaseNote) → contains same_note cluster.known_notes note ≡ list_any (same_note note) s.notes.items
  pub known_handles : (handle : KeyHandle) → contains same_handle cluster.known_handles handle ≡ list_any (same_handle handle) s.handles.items
  pub proposals : cluster.proposals.items ≡ s.assignments.items
