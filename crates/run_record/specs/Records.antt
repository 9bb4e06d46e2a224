-- What a record has of a run.
use Rattle.std.specs.Prelude.{◌≡◌, ℕ, ◌+◌, ◌-◌, true, List, [], ◌∷◌, ◌++◌, Option, Some, None, length, drop, reverse, slice_get}
use Rattle.std.specs.List.{list_any}
use Rattle.indexmap.specs.IndexSet.{insert_all}
use Rattle.assignment.specs.Slices.{Slicing}
use Rattle.grants.specs.declared.kept.Kept.{Kept}
use Rattle.grants.specs.declared.values.ReleaseNote.{ReleaseNote}
use Rattle.lease_table.specs.Calls.{grants_sent}
use Rattle.key_handle.specs.declared.handle.KeyHandle.{KeyHandle}
use Rattle.job_calls.specs.declared.call.ClusterCall.{ClusterCall}
use Rattle.job_calls.specs.declared.call.ClusterCall.TheVariants as call
use Rattle.job_calls.specs.declared.reply.ClusterReply.{ClusterReply}
use Rattle.job_calls.specs.declared.reply.ClusterReply.TheVariants as reply
use Rattle.job_calls.specs.declared.snapshot.ClusterSnapshot.{ClusterSnapshot}
use Rattle.job_calls.specs.declared.snapshot.TaskSnapshot.{TaskSnapshot}
use Rattle.cluster.specs.ActorLists.{AreActors}
use Rattle.job_calls.specs.Jobs.{Job}
use Rattle.cluster.specs.Made.{with_note, with_handle, same_note, same_handle, is_made, is_given}
use Rattle.cluster.specs.Pasts.{Past, with_table_call, table_calls, grants, newest_learnt, readings}
use Rattle.job_calls.specs.Readings.{reading}
use Rattle.cluster.specs.Timing.{greater_reading, greatest_reading}
use Rattle.cluster.specs.continued.Clusters.{AreAfter}
use Rattle.cluster.specs.continued.Snapshots.{IsTaskAt}
use Rattle.cluster.specs.internals.Proposals.{proposals_in}
use Rattle.run_record.specs.declared.run_record.RunRecord.{RunRecord}

-- each task, the first of number 1, stands at its snapshot
pub record AreTasksAt (past : Past) (many : ℕ) (tasks : List TaskSnapshot) : Type 0 where
  pub all : length tasks ≡ many
  pub each : (i : ℕ) (task : TaskSnapshot) → slice_get tasks i ≡ Some task → IsTaskAt past (i + 1) task

-- these are the last ones of all that was made, in order
abbrev pub AreLast : {A : Type 0} → List A → List A → Type 0
AreLast made kept = (first : ℕ) × AreAfter first made kept

-- a record has where each actor stands after a run, the last grants and assignments, notes and handles that were made in it, and the greatest
-- reading of the table's clock
pub record IsRecordOf (job : Job) (past : Past) (r : RunRecord) : Type 0 where
  pub tasks : AreTasksAt past job.tasks r.tasks.items
  pub clerks : AreActors (λ n. newest_learnt n past) job.clerks r.clerks.items
  pub grants : AreLast (grants past) r.grants.items
  pub assignments : AreLast (proposals_in (table_calls past)) r.assignments.items
  pub notes : (note : ReleaseNote) → list_any (same_note note) r.notes.items ≡ true → is_made past note ≡ true
  pub handles : (handle : KeyHandle) → list_any (same_handle handle) r.handles.keys ≡ true → is_given past handle ≡ true
  pub reading : r.table_reading ≡ greatest_reading (readings past)

-- the handle that a call returned, or that it found continuous or broken
abbrev pub handle_checked : KeyHandle → ClusterReply → List KeyHandle
handle_checked handle reply.Continuous = handle ∷ []
handle_checked handle reply.Broken = handle ∷ []
handle_checked handle _ = []

abbrev pub handles_shown : ClusterCall → ClusterReply → List KeyHandle
handles_shown (call.Check task handle at) told = handle_checked handle told
handles_shown c told = with_handle c told []

-- a record remembers, after what it did before, all that a call made, and the handle that it checked
pub record RemembersMore (c : ClusterCall) (told : ClusterReply) (before after : RunRecord) : Type 0 where
  pub grants : after.grants.items ≡ before.grants.items ++ grants_sent (with_table_call c told [])
  pub assignments : after.assignments.items ≡ before.assignments.items ++ proposals_in (with_table_call c told [])
  pub notes : after.notes.items ≡ before.notes.items ++ reverse (with_note c told [])
  pub handles : after.handles.keys ≡ insert_all same_handle before.handles.keys (handles_shown c told)
  pub reading : after.table_reading ≡ greater_reading (reading c) before.table_reading

-- how many assignments a table has from the committed one on
abbrev pub one_of : Option Slicing → ℕ
one_of None = 0
one_of (Some slicing) = 1

abbrev pub many_in_force : Kept → ℕ
many_in_force k = one_of k.committed + one_of k.pending

-- a record takes over the actors and the greatest reading of a snapshot, and of all that was made only the assignments from the committed one on
pub record IsTakenOver (s : ClusterSnapshot) (r : RunRecord) : Type 0 where
  pub tasks : r.tasks.items ≡ s.tasks.items
  pub clerks : r.clerks.items ≡ s.clerks.items
  pub grants : r.grants.items ≡ []
  pub assignments : r.assignments.items ≡ drop (length s.assignments.items - many_in_force s.table.kept) s.assignments.items
  pub notes : r.notes.items ≡ []
  pub handles : r.handles.keys ≡ []
  pub reading : r.table_reading ≡ s.table_reading

-- a snapshot has what a record has
pub record HasParts (r : RunRecord) (s : ClusterSnapshot) : Type 0 where
  pub tasks : s.tasks.items ≡ r.tasks.items
  pub clerks : s.clerks.items ≡ r.clerks.items
  pub grants : s.grants.items ≡ r.grants.items
  pub assignments : s.assignments.items ≡ r.assignments.items
  pub notes : s.notes.items ≡ r.notes.items
  pub handles : s.handles.items ≡ r.handles.keys
  pub reading : s.table_reading ≡ r.table_reading
