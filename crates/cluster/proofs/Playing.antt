-- What one call leads to.
use Rattle.std.proofs.Common.{◌≡◌, ℕ, Bool, true, false, List, [], ◌∷◌, refl, sym, ◌∙◌, ap, subst}
use Rattle.std.specs.Prelude.{Option, Result, Ok, Err, is_ok, ◌==◌, reverse, if◌then◌else◌}
use Rattle.lease_table.specs.Calls.{AnsweredTableCall, standing_after, grants_sent}
use Rattle.clerk.specs.Knowledge.{greatest_of}
use Rattle.cluster.specs.internals.Proposals.{proposals_in}
use Rattle.machines.specs.declared.machine.Trouble.{Trouble}
use Rattle.machines.specs.declared.machine.Trouble.TheVariants.{Refused, NoMemory}
use Rattle.indexmap.specs.IndexSet.{contains}
use Rattle.machines.specs.Answers.{Takes}
use Rattle.assignment.specs.Slices.{Slicing}
use Rattle.grants.specs.declared.slicelet_call.SliceletCall.{SliceletCall}
use Rattle.slicelet.specs.States.{SliceletState, state_after}
use Rattle.grants.specs.declared.values.ReleaseNote.{ReleaseNote}
use Rattle.key_handle.specs.declared.handle.KeyHandle.{KeyHandle}
use Rattle.cluster.specs.continued.Jobs.{Continued, Counts}
use Rattle.job_calls.specs.declared.error.ClusterError.{ClusterError}
use Rattle.job_calls.specs.declared.call.ClusterCall.{ClusterCall}
use Rattle.job_calls.specs.declared.call.ClusterCall.TheVariants as call
use Rattle.job_calls.specs.declared.reply.ClusterReply.{ClusterReply}
use Rattle.job_calls.specs.declared.reply.ClusterReply.TheVariants as reply
use Rattle.cluster.specs.declared.cluster.Cluster.{Cluster}
use Rattle.cluster.specs.Pasts.{event, Past, table_calls, task_calls, history, learnt_by, newest_learnt}
use Rattle.cluster.specs.Made.{with_note, with_handle, notes_made, handles_made, same_note, same_handle}
use Rattle.cluster.specs.Answers.{from_machine}
use Rattle.cluster.specs.continued.Replies.{reply_to}
use Rattle.cluster.specs.TakingMemory.{takes_memory, needs_memory}
use Rattle.cluster.specs.continued.Runs.{IsReply, IsOutcome}
use Rattle.cluster.specs.ActorLists.{AreActors}
use Rattle.cluster.specs.continued.Clusters.{Keeps, LeadsTo, IsPlayed}
use Rattle.cluster.specs.internals.Turns.{told_as}
use Rattle.cluster.proofs.ActorLists.{actors_same}
use Rattle.cluster.proofs.Keeping.{after_same, after_made, since_same, since_made, no_note_more, no_handle_more, steady_same, steady_next, note_known, handle_known}

-- notes, and handles, are found as before
abbrev pub KnowsSameNotes : Cluster → Cluster → Type 0
KnowsSameNotes old new = (note : ReleaseNote) → contains same_note new.known_notes note ≡ contains same_note old.known_notes note

abbrev pub KnowsSameHandles : Cluster → Cluster → Type 0
KnowsSameHandles old new = (handle : KeyHandle) → contains same_handle new.known_handles handle ≡ contains same_handle old.known_handles handle

-- all of which a past tells is as it was
pub record IsSame (old new : Cluster) : Type 0 where
  pub job : new.job ≡ old.job
  pub earlier : new.earlier ≡ old.earlier
  pub table : new.table ≡ old.table
  pub tasks : new.tasks.items ≡ old.tasks.items
  pub clerks : new.clerks.items ≡ old.clerks.items
  pub grants : new.grants.items ≡ old.grants.items
  pub notes : reverse new.notes.items ≡ reverse old.notes.items
  pub handles : reverse new.handles.items ≡ reverse old.handles.items
  pub known_notes : KnowsSameNotes old new
  pub known_handles : KnowsSameHandles old new
  pub proposals : new.proposals.items ≡ old.proposals.items

-- all but the slicelets and the notes, all but the clerks, and all but the handles
pub record IsSameBesideTasks (old new : Cluster) : Type 0 where
  pub job : new.job ≡ old.job
  pub earlier : new.earlier ≡ old.earlier
  pub table : new.table ≡ old.table
  pub clerks : new.clerks.items ≡ old.clerks.items
  pub grants : new.grants.items ≡ old.grants.items
  pub handles : reverse new.handles.items ≡ reverse old.handles.items
  pub known_handles : KnowsSameHandles old new
  pub proposals : new.proposals.items ≡ old.proposals.items

pub record IsSameBesideClerks (old new : Cluster) : Type 0 where
  pub job : new.job ≡ old.job
  pub earlier : new.earlier ≡ old.earlier
  pub table : new.table ≡ old.table
  pub tasks : new.tasks.items ≡ old.tasks.items
  pub grants : new.grants.items ≡ old.grants.items
  pub notes : reverse new.notes.items ≡ reverse old.notes.items
  pub handles : reverse new.handles.items ≡ reverse old.handles.items
  pub known_notes : KnowsSameNotes old new
  pub known_handles : KnowsSameHandles old new
  pub proposals : new.proposals.items ≡ old.proposals.items

pub record IsSameBesideHandles (old new : Cluster) : Type 0 where
  pub job : new.job ≡ old.job
  pub earlier : new.earlier ≡ old.earlier
  pub table : new.table ≡ old.table
  pub tasks : new.tasks.items ≡ old.tasks.items
  pub clerks : new.clerks.items ≡ old.clerks.items
  pub grants : new.grants.items ≡ old.grants.items
  pub notes : reverse new.notes.items ≡ reverse old.notes.items
  pub known_notes : KnowsSameNotes old new
  pub proposals : new.proposals.items ≡ old.proposals.items

pub kept_same : (job : Continued) (past : Past) (old new : Cluster) → Keeps job past old → IsSame old new → Keeps job past new
kept_same job past old new k s = record {
  run = k.run;
  within = k.within;
  same_job = s.job ∙ k.same_job;
  table = s.table ∙ k.table;
  tasks = subst (λ (xs : List SliceletState). AreActors (λ n. history n past) job.tasks xs) (sym s.tasks) k.tasks;
  clerks = subst (λ (xs : List (Option Slicing)). AreActors (λ n. newest_learnt n past) job.clerks xs) (sym s.clerks) k.clerks;
  grants = after_same _ _ _ _ _ (ap (λ (c : Counts). c.grants) s.earlier) s.grants k.grants;
  notes = since_same _ _ _ _ _ (ap (λ (c : Counts). c.notes) s.earlier) s.notes k.notes;
  handles = since_same _ _ _ _ _ (ap (λ (c : Counts). c.handles) s.earlier) s.handles k.handles;
  proposals = after_same _ _ _ _ _ (ap (λ (c : Counts). c.proposals) s.earlier) s.proposals k.proposals;
  earlier_notes = ap (λ (c : Counts). c.notes) s.earlier ∙ k.earlier_notes;
  earlier_handles = ap (λ (c : Counts). c.handles) s.earlier ∙ k.earlier_handles;
  known_notes = λ note. s.known_notes note ∙ k.known_notes note;
  known_handles = λ handle. s.known_handles handle ∙ k.known_handles handle;
  steady = steady_same job past old.earlier k.steady new.earlier s.earlier;
}

-- A REFUSED CALL

either : {A : Type 0} (b : Bool) (x : A) → (if b then x else x) ≡ x
either true x = refl
either false x = refl

module _ (past : Past) (why : ClusterError) where
  refused_table : (c : ClusterCall) → table_calls (event c (reply.Refused why) ∷ past) ≡ table_calls past
  refused_table (call.Table c) = refl
  refused_table _ = refl

  refused_task : (task : ℕ) (c : ClusterCall) → task_calls task (event c (reply.Refused why) ∷ past) ≡ task_calls task past
  refused_task task (call.Task by c) = either (by == task) (task_calls task past)
  refused_task task _ = refl

  refused_clerk : (clerk : ℕ) (c : ClusterCall) → learnt_by clerk (event c (reply.Refused why) ∷ past) ≡ learnt_by clerk past
  refused_clerk clerk (call.Clerk by c) = either (by == clerk) (learnt_by clerk past)
  refused_clerk clerk _ = refl

  refused_notes : (c : ClusterCall) → with_note c (reply.Refused why) [] ≡ []
  refused_notes (call.Task by c) = refl
  refused_notes _ = refl

  refused_handles : (c : ClusterCall) → with_handle c (reply.Refused why) [] ≡ []
  refused_handles (call.Hold by key at) = refl
  refused_handles _ = refl

-- a call after which each actor was told, and all was made, as before
pub only_told : (job : Continued) (past : Past) (c : ClusterCall) (told : ClusterReply) (cluster : Cluster) → Keeps job past cluster → IsReply job past (event c told)
    → table_calls (event c told ∷ past) ≡ table_calls past → ((n : ℕ) → task_calls n (event c told ∷ past) ≡ task_calls n past)
    → ((n : ℕ) → learnt_by n (event c told ∷ past) ≡ learnt_by n past) → with_note c told [] ≡ []
    → with_handle c told [] ≡ [] → Keeps job (event c told ∷ past) cluster
only_told job past c told cluster k answered table tasks clerks notes handles =
    let after : Past = event c told ∷ past in
    record {
      run = (answered, k.run);
      within = k.within;
      same_job = k.same_job;
      table = k.table ∙ ap (λ (calls : List AnsweredTableCall). standing_after job.policy calls) (sym table);
      tasks = actors_same (λ n. history n past) (λ n. history n after) job.tasks cluster.tasks.items (λ n. ap (λ (h : List SliceletCall). state_after n h) (sym (tasks n))) k.tasks;
      clerks = actors_same (λ n. newest_learnt n past) (λ n. newest_learnt n after) job.clerks cluster.clerks.items (λ n. ap greatest_of (sym (clerks n))) k.clerks;
      grants = after_made _ _ _ _ (ap grants_sent table) k.grants;
      notes = since_made _ _ _ _ (no_note_more c told (notes_made past) notes) k.notes;
      handles = since_made _ _ _ _ (no_handle_more c told (handles_made past) handles) k.handles;
      proposals = after_made _ _ _ _ (ap proposals_in table) k.proposals;
      earlier_notes = k.earlier_notes;
      earlier_handles = k.earlier_handles;
      known_notes = λ note. k.known_notes note ∙ sym (note_known job past cluster.earlier k.steady c told note notes);
      known_handles = λ handle. k.known_handles handle ∙ sym (handle_known job past cluster.earlier k.steady c told handle handles);
      steady = steady_next job past cluster.earlier k.steady (event c told);
    }

-- it changes nothing
pub refused_leads : (job : Continued) (past : Past) (c : ClusterCall) (why : ClusterError) (cluster : Cluster) → Keeps job past cluster
    → IsReply job past (event c (reply.Refused why)) → Keeps job (event c (reply.Refused why) ∷ past) cluster
refused_leads job past c why cluster k answered =
    only_told job past c (reply.Refused why) cluster k answered (refused_table past why c) (λ n. refused_task past why n c) (λ n. refused_clerk past why n c) (refused_notes past why c)
    (refused_handles past why c)

-- A CALL OF A MACHINE

module _ {M R E : Type 0} (job : Continued) (past : Past) (c : ClusterCall) (refused : E → ClusterError) (name : R → ClusterReply) (step : Result (M × R) E)
    (is : (kept : Bool) → reply_to job past c kept ≡ from_machine refused name step) (outcome : IsOutcome job past c true) where
  pub taken : (p : M × R) → step ≡ Ok p → IsReply job past (event c (name p.1))
  taken p e = (true, outcome, sym (is true ∙ ap (from_machine refused name) e))

  needed : ((r : R) → needs_memory c (name r) ≡ true) → (s : Result (M × R) E) → is_ok s ≡ true → needs_memory c (from_machine refused name s) ≡ true
  needed each (Ok p) ok = each p.1
  needed each (Err why) ok = absurd (let f : false ≡ true = ok in cc)

  pub untaken : (old new : Cluster) (before after : M) (trouble : Trouble E) → LeadsTo job past old → IsSame old new → Takes step before (Err trouble) after
      → (trouble ≡ NoMemory → takes_memory c ≡ true) → ((r : R) → needs_memory c (name r) ≡ true) → IsPlayed job past c (told_as refused name (Err trouble)) new
  unfolding LeadsTo
  untaken old new before after (Refused why) k same h takes each =
      refused_leads job past c (refused why) new (kept_same job past old new k same) (true, outcome, sym (is true ∙ ap (from_machine refused name) h.0))
  untaken old new before after NoMemory k same h takes each =
      (kept_same job past old new k same, (takes refl, λ kept. subst (λ (r : ClusterReply). needs_memory c r ≡ true) (sym (is kept)) (needed each step h.0)))

-- a call that does not come to its machine
pub stopped : (job : Continued) (past : Past) (c : ClusterCall) (why : ClusterError) (cluster : Cluster) → LeadsTo job past cluster
    → ((kept : Bool) → reply_to job past c kept ≡ reply.Refused why) → IsOutcome job past c true → IsPlayed job past c (Ok (reply.Refused why)) cluster
unfolding LeadsTo
stopped job past c why cluster k is outcome = refused_leads job past c why cluster k (true, outcome, sym (is true))
