-- A call of the table.
use Rattle.std.proofs.Common.{◌≡◌, ◌∷◌, true, List, refl, sym, ◌∙◌, ap, subst}
use Rattle.std.specs.Prelude.{Bool, Option, None, Result, Ok, Err, reverse}
use Rattle.grants.specs.declared.values.ReleaseNote.{ReleaseNote}
use Rattle.key_handle.specs.declared.handle.KeyHandle.{KeyHandle}
use Rattle.machines.specs.declared.machine.Trouble.{Trouble}
use Rattle.indexmap.specs.IndexSet.{contains}
use Rattle.machines.specs.Answers.{Takes}
use Rattle.machines.specs.Calls.{LeadsOn}
use Rattle.assignment.specs.Slices.{Slicing}
use Rattle.grants.specs.declared.table_call.TableCall.{TableCall}
use Rattle.grants.specs.declared.table_call.TableReply.{TableReply}
use Rattle.grants.specs.declared.table_error.TableError.{TableError}
use Rattle.lease_table.specs.Tables.{Standing}
use Rattle.lease_table.specs.Calls.{AnsweredTableCall, table_step, standing_after, LeadsTo as LeadsTable}
use Rattle.slicelet.specs.States.{SliceletState}
use Rattle.std.specs.declared.alloc.AllocError.{AllocError}
use Rattle.grants.specs.Policies.{Terms, is_policy}
use Rattle.cluster.specs.continued.Jobs.{Continued, Counts}
use Rattle.job_calls.specs.declared.error.ClusterError.{ClusterError}
use Rattle.job_calls.specs.declared.error.ClusterError.TheVariants as error
use Rattle.job_calls.specs.declared.call.ClusterCall.TheVariants as call
use Rattle.job_calls.specs.declared.reply.ClusterReply.{ClusterReply}
use Rattle.job_calls.specs.declared.reply.ClusterReply.TheVariants as reply
use Rattle.cluster.specs.declared.cluster.Cluster.{Cluster}
use Rattle.cluster.specs.Pasts.{event, Past, table_calls, standing, history, newest_learnt}
use Rattle.cluster.specs.continued.Deliveries.{table_refusal}
use Rattle.cluster.specs.Answers.{unless, from_machine}
use Rattle.cluster.specs.continued.Replies.{reply_to}
use Rattle.cluster.specs.ActorLists.{AreActors}
use Rattle.cluster.specs.continued.Clusters.{LeadsTo, IsPlayed}
use Rattle.cluster.specs.Made.{same_note, same_handle}
use Rattle.cluster.specs.internals.Turns.{told_as, grants_kept, proposals_kept, OnlyTakes, IsSameBesideTable}
use Rattle.cluster.proofs.Keeping.{after_same, after_grants, after_proposals, since_same, steady_same, steady_next, note_known, handle_known}
use Rattle.cluster.proofs.Playing.{taken, untaken}
use Rattle.cluster.proofs.Turning.{stays}

module _ (job : Continued) (past : Past) (c : TableCall) (old new : Cluster) (came : table_refusal job past c ≡ None)
    (next : LeadsOn (LeadsTable job.policy) (table_calls past) (standing job.policy past) c (table_step (standing job.policy past) c)) where
  reply_is : (kept : Bool) → reply_to job past (call.Table c) kept ≡ from_machine error.Table reply.Table (table_step (standing job.policy past) c)
  reply_is kept = ap (λ (o : Option ClusterError). unless o (from_machine error.Table reply.Table (table_step (standing job.policy past) c))) came

  pub table_played : (answer : Result TableReply (Trouble TableError)) → LeadsTo job past old → Takes (table_step old.table c) old.table answer new.table
      → OnlyTakes c answer
      → new.grants.items ≡ grants_kept answer old.grants.items → new.proposals.items ≡ proposals_kept c answer old.proposals.items → IsSameBesideTable old new
      → IsPlayed job past (call.Table c) (told_as error.Table reply.Table answer) new
  unfolding LeadsTo
  table_played (Ok told) k took memory grants proposals others =
      let done : table_step (standing job.policy past) c ≡ Ok (new.table, told) = subst (λ (t : Standing). table_step t c ≡ Ok (new.table, told)) k.table took in
      record {
        run = (taken job past (call.Table c) error.Table reply.Table (table_step (standing job.policy past) c) reply_is tt (new.table, told) done, k.run);
        within = k.within;
        same_job = others.0 ∙ k.same_job;
        table = sym (subst (LeadsOn (LeadsTable job.policy) (table_calls past) (standing job.policy past) c) done next);
        tasks = subst (λ (xs : List SliceletState). AreActors (λ n. history n past) job.tasks xs) (sym others.1) k.tasks;
        clerks = subst (λ (xs : List (Option Slicing)). AreActors (λ n. newest_learnt n past) job.clerks xs) (sym others.2) k.clerks;
        grants = after_same _ _ _ _ _ (ap (λ (n : Counts). n.grants) others.7) grants (after_grants _ _ _ (Ok told) k.grants);
        notes = since_same _ _ _ _ _ (ap (λ (n : Counts). n.notes) others.7) (ap (λ (xs : List ReleaseNote). reverse xs) others.3) k.notes;
        handles = since_same _ _ _ _ _ (ap (λ (n : Counts). n.handles) others.7) (ap (λ (xs : List KeyHandle). reverse xs) others.4) k.handles;
        proposals = after_same _ _ _ _ _ (ap (λ (n : Counts). n.proposals) others.7) proposals (after_proposals _ _ _ c k.proposals);
        earlier_notes = ap (λ (n : Counts). n.notes) others.7 ∙ k.earlier_notes;
        earlier_handles = ap (λ (n : Counts). n.handles) others.7 ∙ k.earlier_handles;
        known_notes = λ note.
            ap (λ known. contains same_note known note) others.5 ∙ k.known_notes note ∙ sym (note_known job past old.earlier k.steady (call.Table c) (reply.Table told) note refl);
        known_handles = λ handle.
            ap (λ known. contains same_handle known handle) others.6 ∙ k.known_handles handle
            ∙ sym (handle_known job past old.earlier k.steady (call.Table c) (reply.Table told) handle refl);
        steady = steady_same job (event (call.Table c) (reply.Table told) ∷ past) old.earlier
            (steady_next job past old.earlier k.steady (event (call.Table c) (reply.Table told))) new.earlier others.7;
      }
  table_played (Err trouble) k took memory grants proposals others =
      untaken job past (call.Table c) error.Table reply.Table (table_step (standing job.policy past) c) reply_is tt old new old.table new.table trouble k (record {
        job = others.0;
        earlier = others.7;
        table = stays (table_step old.table c) old.table new.table trouble took;
        tasks = others.1;
        clerks = others.2;
        grants = grants;
        notes = ap (λ (xs : List ReleaseNote). reverse xs) others.3;
        handles = ap (λ (xs : List KeyHandle). reverse xs) others.4;
        known_notes = λ note. ap (λ known. contains same_note known note) others.5;
        known_handles = λ handle. ap (λ known. contains same_handle known handle) others.6;
        proposals = proposals;
      }) (subst (λ (t : Standing). Takes (table_step t c) old.table (Err trouble) new.table) k.table took) memory (λ r. refl)

-- a call that comes to the table, with the law of its steps
pub table_turn : (job : Continued) (past : Past) (c : TableCall) (old new : Cluster) → LeadsTo job past old → table_refusal job past c ≡ None
    → ((policy : Terms) (calls : List AnsweredTableCall) (asked : TableCall) → is_policy policy ≡ true
    → LeadsOn (LeadsTable policy) calls (standing_after policy calls) asked (table_step (standing_after policy calls) asked))
    → (answer : Result TableReply (Trouble TableError)) → Takes (table_step old.table c) old.table answer new.table → OnlyTakes c answer
    → new.grants.items ≡ grants_kept answer old.grants.items → new.proposals.items ≡ proposals_kept c answer old.proposals.items → IsSameBesideTable old new → (result : Result ClusterReply AllocError) → result ≡ told_as error.Table reply.Table answer
    → IsPlayed job past (call.Table c) result new
unfolding LeadsTo
table_turn job past c old new k came law answer took memory grants proposals others result is =
    subst (λ (r : Result ClusterReply AllocError). IsPlayed job past (call.Table c) r new) (sym is)
    (table_played job past c old new came (law job.policy (table_calls past) c k.within) answer k took memory grants proposals others)
