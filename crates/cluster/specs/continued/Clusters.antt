-- Which past leads to a cluster that goes on from earlier calls.
use Rattle.std.specs.Prelude.{◌≡◌, ℕ, ◌||◌, true, List, [], ◌∷◌, ◌++◌, Option, Some, None, Result, Ok, Err, length, reverse}
use Rattle.std.specs.List.{list_any}
use Rattle.std.specs.declared.alloc.AllocError.{AllocError}
use Rattle.machines.specs.Numbers.{is_within}
use Rattle.grants.specs.Policies.{is_policy}
use Rattle.indexmap.specs.IndexSet.{contains}
use Rattle.grants.specs.declared.values.ReleaseNote.{ReleaseNote}
use Rattle.key_handle.specs.declared.handle.KeyHandle.{KeyHandle}
use Rattle.job_calls.specs.declared.call.ClusterCall.{ClusterCall}
use Rattle.job_calls.specs.declared.reply.ClusterReply.{ClusterReply}
use Rattle.cluster.specs.declared.cluster.Cluster.{Cluster}
use Rattle.cluster.specs.Pasts.{Event, event, Past, table_calls, standing, grants, history, newest_learnt}
use Rattle.cluster.specs.Made.{with_note, with_handle, notes_made, handles_made, same_note, same_handle}
use Rattle.cluster.specs.ActorLists.{AreActors}
use Rattle.cluster.specs.continued.Jobs.{Continued, Counts, job_in}
use Rattle.cluster.specs.continued.Deliveries.{knows_note, knows_handle}
use Rattle.cluster.specs.continued.Memory.{MayRunOut}
use Rattle.cluster.specs.continued.Runs.{IsRun}
use Rattle.cluster.specs.internals.Proposals.{proposals_in}

-- these are all that was made but the first ones, so many: in order, and newest first
pub record AreAfter {A : Type 0} (first : ℕ) (made kept : List A) : Type 0 where
  pub before : List A
  pub many : length before ≡ first
  pub all : made ≡ before ++ kept

pub record AreSince {A : Type 0} (first : ℕ) (made kept : List A) : Type 0 where
  pub before : List A
  pub many : length before ≡ first
  pub all : made ≡ kept ++ before

-- from a past on, the grants and the assignments with the first numbers are forgotten, and nothing else: each call adds the notes and the handles that it makes
pub record IsSteady (job : Continued) (past : Past) (earlier : Counts) : Type 0 where
  pub grants : (later : Past) (number : ℕ) → job.forgotten.grant (later ++ past) number ≡ is_within number earlier.grants
  pub generations : (later : Past) (generation : ℕ) → job.forgotten.generation (later ++ past) generation ≡ is_within generation earlier.proposals
  pub notes : (later : Past) (e : Event) (note : ReleaseNote)
      → knows_note job.forgotten (e ∷ (later ++ past)) note
      ≡ (list_any (same_note note) (with_note e.call e.reply []) || knows_note job.forgotten (later ++ past) note)
  pub handles : (later : Past) (e : Event) (handle : KeyHandle)
      → knows_handle job.forgotten (e ∷ (later ++ past)) handle
      ≡ (list_any (same_handle handle) (with_handle e.call e.reply []) || knows_handle job.forgotten (later ++ past) handle)

-- a run, what each actor was told in it, and what of all that was made in it is known
pub record Keeps (job : Continued) (past : Past) (cluster : Cluster) : Type 0 where
  pub run : IsRun job past
  pub within : is_policy job.policy ≡ true
  pub same_job : cluster.job ≡ job_in job
  pub table : cluster.table ≡ standing job.policy past
  pub tasks : AreActors (λ n. history n past) job.tasks cluster.tasks.items
  pub clerks : AreActors (λ n. newest_learnt n past) job.clerks cluster.clerks.items
  pub grants : AreAfter cluster.earlier.grants (grants past) cluster.grants.items
  pub notes : AreSince cluster.earlier.notes (notes_made past) (reverse cluster.notes.items)
  pub handles : AreSince cluster.earlier.handles (handles_made past) (reverse cluster.handles.items)
  pub proposals : AreAfter cluster.earlier.proposals (proposals_in (table_calls past)) cluster.proposals.items
  pub earlier_notes : cluster.earlier.notes ≡ length (notes_made job.earlier)
  pub earlier_handles : cluster.earlier.handles ≡ length (handles_made job.earlier)
  pub known_notes : (note : ReleaseNote) → contains same_note cluster.known_notes note ≡ knows_note job.forgotten past note
  pub known_handles : (handle : KeyHandle) → contains same_handle cluster.known_handles handle ≡ knows_handle job.forgotten past handle
  pub steady : IsSteady job past cluster.earlier

-- the calls of a past, with their replies, lead to this cluster
unfoldable pub LeadsTo : Continued → Past → Cluster → Type 0
LeadsTo job past cluster = Keeps job past cluster

-- a call is answered, or it is out of memory where it may be, and the same past leads to the cluster as before
abbrev pub IsPlayed : Continued → Past → ClusterCall → Result ClusterReply AllocError → Cluster → Type 0
IsPlayed job past call (Ok reply) cluster = LeadsTo job (event call reply ∷ past) cluster
IsPlayed job past call (Err e) cluster = LeadsTo job past cluster × MayRunOut job past call

-- a call that delivers what has a number is answered as the call that holds it; where nothing has the number, this is answered, and nothing changes
abbrev pub IsPlayedOr : Continued → Past → Option ClusterCall → ClusterReply → Result ClusterReply AllocError → Cluster → Type 0
IsPlayedOr job past (Some call) none result cluster = IsPlayed job past call result cluster
IsPlayedOr job past None none result cluster = (result ≡ Ok none) × LeadsTo job past cluster
