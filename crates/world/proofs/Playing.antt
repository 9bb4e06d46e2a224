-- Steps one after another.
use Rattle.std.proofs.Common.{◌≡◌, ℕ, true, List, [], ◌∷◌, ◌++◌, length, refl, sym, ◌∙◌, ap, subst}
use Rattle.std.specs.Prelude.{Option, Some, None, Result, Err, is_err, option_map}
use Rattle.std.specs.declared.alloc.AllocError.{AllocError}
use Rattle.grants.specs.declared.values.JobTerm.{JobTerm}
use Rattle.load_ledger.specs.Shares.{Share}
use Rattle.assigner.specs.Terms.{Keeping}
use Rattle.job_calls.specs.declared.call.ClusterCall.{ClusterCall}
use Rattle.job_calls.specs.declared.error.ClusterError.TheVariants as error
use Rattle.job_calls.specs.declared.reply.ClusterReply.{ClusterReply}
use Rattle.job_calls.specs.declared.reply.ClusterReply.TheVariants as machine
use Rattle.cluster.specs.Pasts.{Past as ClusterPast}
use Rattle.cluster.specs.Runs.{IsRun as IsClusterRun}
use Rattle.cluster.specs.Clusters.{AreActors, LeadsTo as LeadsToCluster, IsPlayedOr}
use Rattle.world.specs.Jobs.{Job}
use Rattle.world.specs.declared.step.Step.{Step}
use Rattle.replies.specs.declared.reply.Refusal.{Refusal}
use Rattle.replies.specs.declared.reply.Refusal.TheVariants as refusal
use Rattle.replies.specs.declared.reply.Reply.{Reply}
use Rattle.replies.specs.declared.reply.Reply.TheVariants as reply
use Rattle.world.specs.declared.world.World.{World}
use Rattle.world.specs.Pasts.{event, Past}
use Rattle.world.specs.Front.{kept_with, share_of}
use Rattle.world.specs.Calls.{if_sent, call_of, calls_in}
use Rattle.world.specs.Replies.{named, next_numbers, assigner_of}
use Rattle.replies.specs.Told.{told_as}
use Rattle.world.specs.Runs.{IsReply, past_after}
use Rattle.world.specs.Worlds.{Keeps}
use Rattle.world.specs.internals.Asking.{told_of}
use Rattle.world.proofs.Asking.{no_call, nothing_called, Fits, IsSameFront, led_on}
use Rattle.world.proofs.Keeping.{kept_same}

module _ (job : Job) (past : Past) (s : Step) (world : World) (k : Keeps job past world) where
  -- a step that is refused without a call changes nothing
  pub refused_leads : (why : Refusal) → IsReply job past (event s (reply.Refused why)) → is_err (call_of job past (calls_in job past) s) ≡ true → Keeps job (event s (reply.Refused why) ∷ past) world
  refused_leads why answered none = record {
    run = (answered, k.run);
    cluster = subst (λ (calls : ClusterPast). LeadsToCluster job calls world.cluster) (sym (no_call (reply.Refused why) (call_of job past (calls_in job past) s) (calls_in job past) none)) k.cluster;
    same_job = k.same_job;
    draft = k.draft;
    assigners = k.assigners;
    shares = k.shares;
    book = k.book;
  }

  -- nor does one without memory
  pub unplayed_leads : IsReply job past (event s reply.NoMemory) → Keeps job (event s reply.NoMemory ∷ past) world
  unplayed_leads answered = record {
    run = (answered, k.run);
    cluster = subst (λ (calls : ClusterPast). LeadsToCluster job calls world.cluster) (sym (nothing_called (call_of job past (calls_in job past) s) (calls_in job past))) k.cluster;
    same_job = k.same_job;
    draft = k.draft;
    assigners = k.assigners;
    shares = k.shares;
    book = k.book;
  }

-- one step more, with its reply
pub past_after-push : (past : Past) (steps : List Step) (replies : List Reply) (s : Step) (r : Reply) → length replies ≡ length steps
    → past_after past (steps ++ s ∷ []) (replies ++ r ∷ []) ≡ event s r ∷ past_after past steps replies
past_after-push past [] [] s r e = refl
past_after-push past [] (x ∷ replies) s r e = absurd (cc)
past_after-push past (x ∷ steps) [] s r e = absurd (cc)
past_after-push past (x ∷ steps) (y ∷ replies) s r e = past_after-push (event x y ∷ past) steps replies s r (cc)

-- a step that delivers what has a number was played, or nothing has the number
module _ (job : Job) (past : Past) (s : Step) (old new : World) (k : Keeps job past old) (same : IsSameFront old new) (assigners : new.assigners.items ≡ old.assigners.items)
    (law : (job : Job) (calls : ClusterPast) → LeadsToCluster job calls new.cluster → IsClusterRun job calls)
    (unsent : call_of job past (calls_in job past) s ≡ Err refusal.NotSent → IsReply job past (event s (reply.Refused refusal.NotSent))) where
  pub delivered_on : {A : Type 0} (o : Option A) (deliver : A → ClusterCall) → call_of job past (calls_in job past) s ≡ if_sent o deliver → ((x : A) → Fits s (deliver x))
      → (none : ClusterReply) → none ≡ machine.Refused error.NotSent → (result : Result ClusterReply AllocError) → IsPlayedOr job (calls_in job past) (option_map deliver o) none result new.cluster
      → (answer : Reply) → answer ≡ told_of s (next_numbers (calls_in job past)) result → ((n : ℕ) (before : Option JobTerm) → kept_with n s answer before ≡ before) → Keeps job (event s answer ∷ past) new
  delivered_on (Some x) deliver is fit none unfound result played answer e stays = led_on job past s (deliver x) old new k is same (fit x) law result played answer e assigners stays
  delivered_on None deliver is fit none unfound result played answer e stays =
      let told : answer ≡ reply.Refused refusal.NotSent = e ∙ ap (told_of s (next_numbers (calls_in job past))) played.0 ∙ ap (told_as (named s) (next_numbers (calls_in job past))) unfound in
      let kept = kept_same job past old new k played.1 same.job same.draft
      (subst (λ (xs : List Keeping). AreActors (assigner_of job past) job.assigners xs) (sym assigners) k.assigners) (subst (λ (xs : List Share). AreActors (share_of past) job.tasks xs) (sym same.shares) k.shares) same.book in
      subst (λ (a : Reply). Keeps job (event s a ∷ past) new) (sym told) (refused_leads job past s new kept refusal.NotSent (unsent is) (ap is_err is))
