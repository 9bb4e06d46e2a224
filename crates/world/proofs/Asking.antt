-- A step that makes a call of the machines leads on as its call does.
use Rattle.std.proofs.Common.{◌≡◌, ℕ, Bool, true, false, List, ◌∷◌, refl, sym, ◌∙◌, ap, subst, inl, inr}
use Rattle.std.specs.Prelude.{Option, Result, Ok, Err, IsTrue, is_err, if◌then◌else◌}
use Rattle.std.specs.declared.alloc.AllocError.{AllocError}
use Rattle.machines.specs.Numbers.{is_within}
use Rattle.grants.specs.declared.values.JobTerm.{JobTerm}
use Rattle.load_ledger.specs.Shares.{Share}
use Rattle.load_ledger.specs.Books.{book_of}
use Rattle.assignment.specs.Slices.{Slicing}
use Rattle.assigner.specs.Terms.{Keeping}
use Rattle.job_calls.specs.declared.call.ClusterCall.{ClusterCall}
use Rattle.job_calls.specs.declared.reply.ClusterReply.{ClusterReply}
use Rattle.cluster.specs.Pasts.{event as cluster_event, Past as ClusterPast, is_accepted as is_accepted_call}
use Rattle.cluster.specs.Memory.{takes_memory as call_takes_memory, needs_memory as call_needs_memory}
use Rattle.cluster.specs.Runs.{IsOutcome as IsClusterOutcome, IsRun as IsClusterRun}
use Rattle.cluster.specs.Clusters.{AreActors, LeadsTo as LeadsToCluster, IsPlayed}
use Rattle.cluster.proofs.ActorLists.{actors_same}
use Rattle.world.specs.Jobs.{Job}
use Rattle.world.specs.declared.step.Step.{Step}
use Rattle.world.specs.declared.step.Step.TheVariants as step
use Rattle.replies.specs.declared.reply.Reply.{Reply}
use Rattle.replies.specs.declared.reply.Reply.TheVariants as reply
use Rattle.replies.specs.declared.reply.Refusal.{Refusal}
use Rattle.replies.specs.declared.reply.Refusal.TheVariants as refusal
use Rattle.replies.specs.declared.told.NextNumbers.{NextNumbers}
use Rattle.world.specs.declared.world.World.{World}
use Rattle.world.specs.Pasts.{event, Past, is_accepted}
use Rattle.world.specs.Front.{draft_after, draft_of, kept_with, kept_term, recorded_with, recorded_by, share_of, gathered_with, gathers_in}
use Rattle.world.specs.Calls.{if_actor, call_of, with_call, calls_in}
use Rattle.world.specs.Replies.{Outcome, Plain, Checked, is_continuous_in, named, next_numbers, reply_by_call, assigner_of, reply_to}
use Rattle.replies.specs.Told.{told_as}
use Rattle.world.specs.Runs.{IsCallOutcome, IsOutcome, takes_memory, needs_memory, IsReply}
use Rattle.world.specs.Worlds.{Keeps}
use Rattle.world.specs.internals.Asking.{told_of, IsAsked}
use Rattle.world.proofs.Telling.{faithful, calls_after}

pub either : {A : Type 0} (b : Bool) (x y : A) → x ≡ y → (if b then x else y) ≡ y
either true x y e = e
either false x y e = refl

-- a step without memory makes no call
pub nothing_called : (o : Result ClusterCall Refusal) (calls : ClusterPast) → with_call reply.NoMemory o calls ≡ calls
nothing_called (Ok made) calls = refl
nothing_called (Err why) calls = refl

-- a step that calls no machine leaves their calls
pub no_call : (answer : Reply) (o : Result ClusterCall Refusal) (calls : ClusterPast) → is_err o ≡ true → with_call answer o calls ≡ calls
no_call answer (Ok made) calls e = absurd (let f : false ≡ true = e in cc)
no_call answer (Err why) calls e = refl

-- A STEP WITH A CALL

-- a call takes memory for a reply only where its step does
pub record Fits (s : Step) (made : ClusterCall) : Type 0 where
  pub takes : call_takes_memory made ≡ true → takes_memory s ≡ true
  pub needs : (next : NextNumbers) (r : ClusterReply) → call_needs_memory made r ≡ true → needs_memory s (told_as (named s) next r) ≡ true

pub fits : (s : Step) (made : ClusterCall) → (call_takes_memory made ≡ true → takes_memory s ≡ true) → ((r : ClusterReply) → call_needs_memory made r ≡ is_accepted_call r)
    → ((r : Reply) → needs_memory s r ≡ is_accepted r) → Fits s made
fits s made takes asked told = record { takes = takes; needs = λ next r n. told (told_as (named s) next r) ∙ ((faithful (named s) next r).accepts ∙ (sym (asked r) ∙ n)) }

module _ (job : Job) (past : Past) (calls : ClusterPast) (made : ClusterCall) where
  -- a step with a call has no other matter
  pub replied_by_call : (s : Step) (outcome : Outcome) → call_of job past calls s ≡ Ok made → calls ≡ calls_in job past
      → reply_to job past s outcome ≡ reply_by_call job calls s (is_continuous_in outcome) (Ok made)
  replied_by_call (step.Hash key) outcome e same = absurd (cc)
  replied_by_call (step.Assign generation slices) outcome e same = absurd (cc)
  replied_by_call (step.Owners key) outcome e same = absurd (cc)
  replied_by_call (step.Judge question) outcome e same = absurd (cc)
  replied_by_call (step.Load task key weight) outcome e same = absurd (cc)
  replied_by_call step.Gather outcome e same = absurd (cc)
  replied_by_call (step.Plan loads tasks bounds) outcome e same = absurd (cc)
  replied_by_call (step.Next assigner at wanted) outcome e same = absurd (cc)
  replied_by_call (step.DropTerm assigner) outcome e same = absurd (cc)
  replied_by_call s outcome e same =
      subst (λ (c : ClusterPast). reply_by_call job c s (is_continuous_in outcome) (call_of job past c s) ≡ reply_by_call job calls s (is_continuous_in outcome) (Ok made)) same
      (ap (reply_by_call job calls s (is_continuous_in outcome)) e)

  pub outcome_by_call : (s : Step) (outcome : Outcome) → call_of job past calls s ≡ Ok made → calls ≡ calls_in job past → IsClusterOutcome job calls made (is_continuous_in outcome)
      → IsOutcome job past s outcome
  outcome_by_call (step.Plan loads tasks bounds) outcome e same h = absurd (cc)
  outcome_by_call s outcome e same h =
      subst (λ (c : ClusterPast). IsCallOutcome job c (is_continuous_in outcome) (call_of job past c s)) same
      (subst (λ (o : Result ClusterCall Refusal). IsCallOutcome job calls (is_continuous_in outcome) o) (sym e) h)

  pub outcome_of_call : (s : Step) (outcome : Outcome) → call_of job past calls s ≡ Ok made → calls ≡ calls_in job past → IsOutcome job past s outcome
      → IsClusterOutcome job calls made (is_continuous_in outcome)
  outcome_of_call (step.Plan loads tasks bounds) outcome e same h = absurd (cc)
  outcome_of_call s outcome e same h =
      subst (λ (o : Result ClusterCall Refusal). IsCallOutcome job calls (is_continuous_in outcome) o) e
      (subst (λ (c : ClusterPast). IsCallOutcome job c (is_continuous_in outcome) (call_of job past c s)) (sym same) h)

  pub same_draft : (s : Step) (before : Option Slicing) → call_of job past calls s ≡ Ok made → draft_after s before ≡ before
  same_draft (step.Assign generation slices) before e = absurd (cc)
  same_draft _ before e = refl

  pub same_records : (s : Step) (task : ℕ) (before : List _) → call_of job past calls s ≡ Ok made → recorded_with task s before ≡ before
  same_records (step.Load by key weight) task before e = absurd (cc)
  same_records step.Gather task before e = absurd (cc)
  same_records _ task before e = refl

  pub same_gathers : (s : Step) (many : ℕ) (before : List (List Share)) → call_of job past calls s ≡ Ok made → gathered_with many past s before ≡ before
  same_gathers step.Gather many before e = absurd (cc)
  same_gathers _ many before e = refl

-- all but the cluster and the assigners is as it was
pub record IsSameFront (old new : World) : Type 0 where
  pub job : new.job ≡ old.job
  pub draft : new.draft ≡ old.draft
  pub shares : new.shares.items ≡ old.shares.items
  pub book : new.book ≡ old.book

module _ (job : Job) (past : Past) (s : Step) (made : ClusterCall) (old new : World) (k : Keeps job past old) (is : call_of job past (calls_in job past) s ≡ Ok made) (same : IsSameFront old new) where
  abbrev calls : ClusterPast
  calls = calls_in job past

  -- where the calls lead to the cluster, and the assigners keep their terms, the step leads on
  kept_on : (answer : Reply) → IsReply job past (event s answer) → LeadsToCluster job (with_call answer (call_of job past calls s) calls) new.cluster
      → AreActors (assigner_of job (event s answer ∷ past)) job.assigners new.assigners.items → Keeps job (event s answer ∷ past) new
  kept_on answer answered leads assigners = record {
    run = (answered, k.run);
    cluster = leads;
    same_job = same.job ∙ k.same_job;
    draft = same.draft ∙ (k.draft ∙ sym (either (is_accepted answer) _ _ (same_draft job past calls made s (draft_of past) is)));
    assigners = assigners;
    shares = subst (λ (xs : List Share). AreActors (share_of (event s answer ∷ past)) job.tasks xs) (sym same.shares)
        (actors_same (share_of past) (share_of (event s answer ∷ past)) job.tasks old.shares.items (λ n. sym (ap (λ (xs : List _). let share : Share = record { task = n; records = xs } in share) (either (is_accepted answer) _ _ (same_records job past calls made s n (recorded_by n past) is)))) k.shares);
    book = same.book ∙ (k.book ∙ sym (ap book_of (either (is_accepted answer) _ _ (same_gathers job past calls made s job.tasks (gathers_in job.tasks past) is))));
  }

  module _ (fit : Fits s made) (law : (job : Job) (calls : ClusterPast) → LeadsToCluster job calls new.cluster → IsClusterRun job calls) where
    -- a call that was played
    pub played_on : (result : Result ClusterReply AllocError) → IsPlayed job calls made result new.cluster → (answer : Reply) → answer ≡ told_of s (next_numbers calls) result
        → AreActors (assigner_of job (event s answer ∷ past)) job.assigners new.assigners.items → Keeps job (event s answer ∷ past) new
    played_on (Ok r) leads answer e assigners =
        let given = (law job (cluster_event made r ∷ calls) leads).0 in
        let kept = given.0 in
        let told = e ∙ (ap (told_as (named s) (next_numbers calls)) given.2 ∙ sym (replied_by_call job past calls made s (Checked kept) is refl)) in
        let after = ap (λ (o : Result ClusterCall Refusal). with_call answer o calls) is ∙ calls_after job calls past s made kept r answer is given.2 e in
        kept_on answer (inl (Checked kept, outcome_by_call job past calls made s (Checked kept) is refl given.1, told)) (subst (λ (c : ClusterPast). LeadsToCluster job c new.cluster) (sym after) leads) assigners
    played_on (Err error) h answer e assigners =
        let needed : (outcome : Outcome) → IsTrue (needs_memory s (reply_to job past s outcome)) = λ outcome.
        subst (λ (r : Reply). needs_memory s r ≡ true) (sym (replied_by_call job past calls made s outcome is refl)) (fit.needs (next_numbers calls) _ (h.1.1 (is_continuous_in outcome))) in
        let after = ap (λ (a : Reply). with_call a (call_of job past calls s) calls) e ∙ nothing_called (call_of job past calls s) calls in
        kept_on answer (inr (e, fit.takes h.1.0, needed)) (subst (λ (c : ClusterPast). LeadsToCluster job c new.cluster) (sym after) h.0) assigners

    -- which changes no assigner
    pub led_on : (result : Result ClusterReply AllocError) → IsPlayed job calls made result new.cluster → (answer : Reply) → answer ≡ told_of s (next_numbers calls) result
        → new.assigners.items ≡ old.assigners.items → ((n : ℕ) (before : Option JobTerm) → kept_with n s answer before ≡ before) → Keeps job (event s answer ∷ past) new
    led_on result played answer e assigners stays =
        played_on result played answer e
        (subst (λ (xs : List Keeping). AreActors (assigner_of job (event s answer ∷ past)) job.assigners xs) (sym assigners)
        (actors_same (assigner_of job past) (assigner_of job (event s answer ∷ past)) job.assigners old.assigners.items
        (λ n. sym (ap (λ (t : Option JobTerm). let a : Keeping = record { id = n; job_term = job.policy.job; term = t } in a) (either (is_accepted answer) _ _ (stays n (kept_term n past))))) k.assigners))

    -- the same of a call that was asked for a step like this one
    pub asked_on : (t : Step) → t ≡ s → (answer : Reply) → IsAsked job calls t made answer new.cluster → new.assigners.items ≡ old.assigners.items
        → ((n : ℕ) (before : Option JobTerm) → kept_with n s answer before ≡ before) → Keeps job (event t answer ∷ past) new
    asked_on t like answer told assigners stays =
        let same_told = subst (λ (x : Step). IsAsked job calls x made answer new.cluster) like told in
        subst (λ (x : Step). Keeps job (event x answer ∷ past) new) (sym like) (led_on same_told.0 same_told.1 answer same_told.2 assigners stays)

-- WHAT IS DELIVERED BY ITS NUMBER

-- an actor of the job makes its call
pub actor_call : (number most : ℕ) (o : Result ClusterCall Refusal) → is_within number most ≡ true → if_actor number most o ≡ o
actor_call number most o e = rw e refl

-- nothing has the number
pub unsent_reply : (job : Job) (past : Past) (s : Step) → call_of job past (calls_in job past) s ≡ Err refusal.NotSent
    → reply_to job past s Plain ≡ reply_by_call job (calls_in job past) s false (call_of job past (calls_in job past) s)
    → (IsCallOutcome job (calls_in job past) false (call_of job past (calls_in job past) s) → IsOutcome job past s Plain) → IsReply job past (event s (reply.Refused refusal.NotSent))
unsent_reply job past s none by_call outcome =
    let calls = calls_in job past in
    inl (Plain, outcome (subst (λ (o : Result ClusterCall Refusal). IsCallOutcome job calls false o) (sym none) tt), sym (by_call ∙ ap (reply_by_call job calls s false) none))
