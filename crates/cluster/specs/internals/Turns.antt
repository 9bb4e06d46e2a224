-- What one call of a machine makes of a cluster.
use Rattle.std.specs.Prelude.{◌≡◌, Bool, ◌||◌, true, false, List, Result, Ok, Err, IfErr, alloc_error}
use Rattle.std.specs.declared.alloc.AllocError.{AllocError}
use Rattle.machines.specs.declared.machine.Trouble.{Trouble}
use Rattle.machines.specs.declared.machine.Trouble.TheVariants.{Refused, NoMemory}
use Rattle.assignment.specs.Slices.{Slicing}
use Rattle.grants.specs.declared.table_call.TableCall.{TableCall}
use Rattle.grants.specs.declared.table_call.TableCall.TheVariants as asked
use Rattle.grants.specs.declared.table_call.TableReply.{TableReply}
use Rattle.grants.specs.declared.values.Grant.{Grant}
use Rattle.grants.specs.declared.values.ReleaseNote.{ReleaseNote}
use Rattle.lease_table.specs.Calls.{grants_after}
use Rattle.lease_table.specs.Memory.{takes_memory}
use Rattle.grants.specs.declared.table_error.TableError.{TableError}
use Rattle.grants.specs.declared.slicelet_call.SliceletReply.{SliceletReply}
use Rattle.grants.specs.declared.slicelet_call.SliceletReply.TheVariants.{Released, Resumed}
use Rattle.job_calls.specs.declared.error.ClusterError.{ClusterError}
use Rattle.job_calls.specs.declared.reply.ClusterReply.{ClusterReply}
use Rattle.job_calls.specs.declared.reply.ClusterReply.TheVariants as reply
use Rattle.cluster.specs.declared.cluster.Cluster.{Cluster}
use Rattle.cluster.specs.Made.{note_told, same_note}
use Rattle.cluster.specs.internals.Proposals.{proposals_with}

-- what a machine answers, as the reply of the cluster
abbrev pub told_as : {R E : Type 0} → (E → ClusterError) → (R → ClusterReply) → Result R (Trouble E) → Result ClusterReply AllocError
told_as refused name (Ok answer) = Ok (name answer)
told_as refused name (Err (Refused why)) = Ok (reply.Refused (refused why))
told_as refused name (Err NoMemory) = Err alloc_error

-- the grants, the proposals and the notes that are kept after an answer; where there is none, those before
abbrev pub grants_kept : {E : Type 0} → Result TableReply E → List Grant → List Grant
grants_kept (Ok told) before = grants_after (Ok told) before
grants_kept (Err why) before = before

abbrev pub proposals_kept : {R E : Type 0} → TableCall → Result R E → List Slicing → List Slicing
proposals_kept c (Ok told) before = proposals_with c true before
proposals_kept c (Err why) before = before

abbrev pub notes_kept : {E : Type 0} → Result SliceletReply E → List ReleaseNote → List ReleaseNote
notes_kept (Ok told) before = note_told (reply.Task told) before
notes_kept (Err why) before = before

-- whether a note is known after an answer, where it was known before or not
abbrev pub known_after : {E : Type 0} → Result SliceletReply E → ReleaseNote → Bool → Bool
known_after (Ok (Released made)) note before = same_note made note || before
known_after (Ok (Resumed ended)) note before = same_note ended.bridge note || (same_note ended.guard note || before)
known_after _ note before = before

-- a call of the table is out of memory only where it takes some
abbrev pub OnlyTakes : TableCall → Result TableReply (Trouble TableError) → Type 0
OnlyTakes c answer = IfErr answer (λ trouble. trouble ≡ NoMemory → takes_memory c ≡ true)

-- all that is no part of the table is as it was
abbrev pub IsSameBesideTable : Cluster → Cluster → Type 0
IsSameBesideTable old new =
    (new.job ≡ old.job) × (new.tasks.items ≡ old.tasks.items) × (new.clerks.items ≡ old.clerks.items) × (new.notes.items ≡ old.notes.items) × (new.handles.items ≡ old.handles.items)
    × (new.known_notes ≡ old.known_notes) × (new.known_handles ≡ old.known_handles) × (new.earlier ≡ old.earlier)

-- a call by which the table makes nothing that is kept
abbrev pub makes_nothing : TableCall → Bool
makes_nothing (asked.Propose number slicing at) = false
makes_nothing (asked.Grant task life at) = false
makes_nothing _ = true
