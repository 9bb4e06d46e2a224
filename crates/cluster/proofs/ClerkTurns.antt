-- A call of a clerk.
use Rattle.std.proofs.Common.{◌≡◌, ℕ, ◌+◌, ◌<◌, Bool, true, false, List, [], ◌∷◌, length, refl, sym, ◌∙◌, ap, subst, arith}
use Rattle.std.specs.Prelude.{◌≢◌, ◌==◌, nat_le, nat_lt, Option, Some, None, Result, Ok, Err, IfErr, set, get_or, if◌then◌else◌}
use Rattle.std.proofs.lemmas.Bool.Decides.{nat_tests}
use Rattle.std.proofs.lemmas.List.{set-get_or}
use Rattle.machines.specs.declared.machine.Trouble.{Trouble}
use Rattle.machines.specs.declared.machine.Trouble.TheVariants.{NoMemory}
use Rattle.machines.specs.Answers.{Takes, with_named_reply}
use Rattle.machines.specs.Refusals.{when, first_of, unless_refused}
use Rattle.machines.specs.Numbers.{is_within}
use Rattle.assignment.specs.Slices.{Slicing}
use Rattle.slicelet.specs.States.{SliceletState}
use Rattle.clerk.specs.declared.call.ClerkCall.{ClerkCall}
use Rattle.clerk.specs.declared.call.ClerkCall.TheVariants.{Learn, Forget}
use Rattle.clerk.specs.declared.call.ClerkReply.{ClerkReply}
use Rattle.clerk.specs.declared.call.ClerkReply.TheVariants.{Learnt}
use Rattle.clerk.specs.declared.error.ClerkError.{ClerkError}
use Rattle.clerk.specs.declared.error.ClerkError.TheVariants.{Old}
use Rattle.clerk.specs.Steps.{look_at}
use Rattle.clerk.specs.Calls.{clerk_step}
use Rattle.clerk.specs.Memory.{takes_memory}
use Rattle.clerk.specs.Knowledge.{accepted_with, greater, greatest_of}
use Rattle.std.specs.declared.alloc.AllocError.{AllocError}
use Rattle.cluster.specs.continued.Jobs.{Continued, Counts}
use Rattle.job_calls.specs.declared.error.ClusterError.{ClusterError}
use Rattle.job_calls.specs.declared.error.ClusterError.TheVariants as error
use Rattle.job_calls.specs.declared.call.ClusterCall.TheVariants as call
use Rattle.job_calls.specs.declared.reply.ClusterReply.{ClusterReply}
use Rattle.job_calls.specs.declared.reply.ClusterReply.TheVariants as reply
use Rattle.cluster.specs.declared.cluster.Cluster.{Cluster}
use Rattle.cluster.specs.Pasts.{event, Past, history, learnt_by, newest_learnt}
use Rattle.cluster.specs.continued.Deliveries.{clerk_refusal}
use Rattle.cluster.specs.Answers.{unless, from_machine, look_reply}
use Rattle.cluster.specs.continued.Replies.{reply_to}
use Rattle.cluster.specs.ActorLists.{AreActors}
use Rattle.cluster.specs.continued.Clusters.{LeadsTo, IsPlayed}
use Rattle.cluster.specs.internals.Turns.{told_as}
use Rattle.cluster.proofs.ActorLists.{of_job, actor_at, actors_set}
use Rattle.cluster.proofs.Keeping.{after_same, since_same, steady_same, steady_next, note_known, handle_known}
use Rattle.cluster.proofs.Playing.{IsSameBesideClerks, taken, untaken, only_told}
use Rattle.cluster.proofs.TaskTurns.{by_own}
use Rattle.cluster.proofs.Turning.{stays, left_is}

-- an assignment that is learnt is above the greatest before it
learnt_greatest : (slicing : Slicing) (g new : Option Slicing) (told : ClerkReply) → clerk_step g (Learn slicing) ≡ Ok (new, told) → new ≡ Some (greater slicing g)
learnt_greatest slicing None new told e = sym (left_is _ _ e)
learnt_greatest slicing (Some kept) new told e = by_test (nat_le slicing.generation kept.generation) refl e
  where
    left : Option Slicing × Unit {0}
    left = (Some slicing, tt)

    by_test : (b : Bool) → b ≡ nat_le slicing.generation kept.generation
        → with_named_reply (λ _. Learnt) (unless_refused (first_of (when b (Old kept.generation) ∷ [])) left) ≡ Ok (new, told) → new ≡ Some (if nat_lt slicing.generation kept.generation then kept else slicing)
    by_test true t e = absurd (cc)
    by_test false t e =
        let above : nat_lt slicing.generation kept.generation ≡ false = grind (arith, nat_tests) in
        let kept_now : new ≡ Some slicing = sym (left_is _ _ e) in
        rw above kept_now

next_newest : (before : List Slicing) (c : ClerkCall) (new : Option Slicing) (told : ClerkReply) → clerk_step (greatest_of before) c ≡ Ok (new, told)
    → new ≡ greatest_of (accepted_with c before)
next_newest before (Learn slicing) new told e = learnt_greatest slicing (greatest_of before) new told e
next_newest before Forget new told e = sym (left_is _ _ e)

own_next : (past : Past) (clerk n : ℕ) (c : ClerkCall) (told : ClerkReply) → n ≡ clerk
    → greatest_of (accepted_with c (learnt_by n past)) ≡ newest_learnt n (event (call.Clerk clerk c) (reply.Clerk told) ∷ past)
own_next past clerk n c told same = let test : (clerk == n) ≡ true = grind (arith, nat_tests) in rw test refl

other_next : (past : Past) (clerk n : ℕ) (c : ClerkCall) (told : ClerkReply) → n ≢ clerk
    → newest_learnt n past ≡ newest_learnt n (event (call.Clerk clerk c) (reply.Clerk told) ∷ past)
other_next past clerk n c told other = let test : (clerk == n) ≡ false = grind (arith, nat_tests) in rw test refl

module _ (job : Continued) (past : Past) (clerk place : ℕ) (c : ClerkCall) (old new : Cluster) (number : place + 1 ≡ clerk) (came : clerk_refusal job.forgotten past c ≡ None) (k : LeadsTo job past old)
    (before after : Option Slicing) (found : before ≡ get_or old.clerks.items place before) (within : place < length old.clerks.items) where
  at_place : before ≡ newest_learnt clerk past
  unfolding LeadsTo
  at_place = actor_at (λ n. newest_learnt n past) (λ n. newest_learnt n past) job.clerks old.clerks.items k.clerks place within before found ∙ ap (λ (n : ℕ). newest_learnt n past) number

  inside : is_within clerk job.clerks ≡ true
  unfolding LeadsTo
  inside = of_job (λ n. newest_learnt n past) job.clerks old.clerks.items k.clerks place clerk number within

  reply_is : (kept : Bool) → reply_to job past (call.Clerk clerk c) kept ≡ from_machine error.Clerk reply.Clerk (clerk_step (newest_learnt clerk past) c)
  reply_is kept =
      by_own clerk job.clerks _ inside ∙ ap (λ (o : Option ClusterError). unless o (from_machine error.Clerk reply.Clerk (clerk_step (newest_learnt clerk past) c))) came

  pub clerk_played : (answer : Result ClerkReply (Trouble ClerkError)) → Takes (clerk_step before c) before answer after → IfErr answer (λ trouble. trouble ≡ NoMemory → takes_memory c ≡ true) → new.clerks.items ≡ set old.clerks.items place after → IsSameBesideClerks old new
      → IsPlayed job past (call.Clerk clerk c) (told_as error.Clerk reply.Clerk answer) new
  unfolding LeadsTo
  clerk_played (Ok told) took memory clerks same =
      let done : clerk_step (newest_learnt clerk past) c ≡ Ok (after, told) = subst (λ (s : Option Slicing). clerk_step s c ≡ Ok (after, told)) at_place took in
      let past_now : Past = event (call.Clerk clerk c) (reply.Clerk told) ∷ past in
      let now : after ≡ newest_learnt (place + 1) past_now =
      next_newest (learnt_by clerk past) c after told done ∙ ap (λ (n : ℕ). greatest_of (accepted_with c (learnt_by n past))) (sym number) ∙ own_next past clerk (place + 1) c told number in
      record {
        run = (taken job past (call.Clerk clerk c) error.Clerk reply.Clerk (clerk_step (newest_learnt clerk past) c) reply_is tt (after, told) done, k.run);
        within = k.within;
        same_job = same.job ∙ k.same_job;
        table = same.table ∙ k.table;
        tasks = subst (λ (xs : List SliceletState). AreActors (λ n. history n past) job.tasks xs) (sym same.tasks) k.tasks;
        clerks = subst (λ (xs : List (Option Slicing)). AreActors (λ n. newest_learnt n past_now) job.clerks xs) (sym clerks)
            (actors_set (λ n. newest_learnt n past) (λ n. newest_learnt n past_now) job.clerks old.clerks.items k.clerks place within after now
            (λ i other. other_next past clerk (i + 1) c told (λ same. other (omega arith))));
        grants = after_same _ _ _ _ _ (ap (λ (c : Counts). c.grants) same.earlier) same.grants k.grants;
        notes = since_same _ _ _ _ _ (ap (λ (c : Counts). c.notes) same.earlier) same.notes k.notes;
        handles = since_same _ _ _ _ _ (ap (λ (c : Counts). c.handles) same.earlier) same.handles k.handles;
        proposals = after_same _ _ _ _ _ (ap (λ (c : Counts). c.proposals) same.earlier) same.proposals k.proposals;
        earlier_notes = ap (λ (c : Counts). c.notes) same.earlier ∙ k.earlier_notes;
        earlier_handles = ap (λ (c : Counts). c.handles) same.earlier ∙ k.earlier_handles;
        known_notes = λ note. same.known_notes note ∙ k.known_notes note ∙ sym (note_known job past old.earlier k.steady (call.Clerk clerk c) (reply.Clerk told) note refl);
        known_handles = λ handle.
            same.known_handles handle ∙ k.known_handles handle ∙ sym (handle_known job past old.earlier k.steady (call.Clerk clerk c) (reply.Clerk told) handle refl);
        steady = steady_same job past_now old.earlier (steady_next job past old.earlier k.steady (event (call.Clerk clerk c) (reply.Clerk told))) new.earlier same.earlier;
      }
  clerk_played (Err trouble) took memory clerks same =
      untaken job past (call.Clerk clerk c) error.Clerk reply.Clerk (clerk_step (newest_learnt clerk past) c) reply_is tt old new before after trouble k
      (record {
        job = same.job;
        earlier = same.earlier;
        table = same.table;
        tasks = same.tasks;
        clerks = clerks ∙ ap (set old.clerks.items place) (stays (clerk_step before c) before after trouble took ∙ found) ∙ set-get_or old.clerks.items place before;
        grants = same.grants;
        notes = same.notes;
        handles = same.handles;
        known_notes = same.known_notes;
        known_handles = same.known_handles;
        proposals = same.proposals;
      }) (subst (λ (s : Option Slicing). Takes (clerk_step s c) before (Err trouble) after) at_place took) memory (λ r. refl)

-- a call that comes to its clerk
pub clerk_turn : (job : Continued) (past : Past) (clerk place : ℕ) (c : ClerkCall) (old new : Cluster) → place + 1 ≡ clerk → clerk_refusal job.forgotten past c ≡ None → LeadsTo job past old
    → (before after : Option Slicing) → before ≡ get_or old.clerks.items place before → place < length old.clerks.items
    → (answer : Result ClerkReply (Trouble ClerkError)) → Takes (clerk_step before c) before answer after → IfErr answer (λ trouble. trouble ≡ NoMemory → takes_memory c ≡ true)
    → new.clerks.items ≡ set old.clerks.items place after → IsSameBesideClerks old new
    → (result : Result ClusterReply AllocError) → result ≡ told_as error.Clerk reply.Clerk answer → IsPlayed job past (call.Clerk clerk c) result new
clerk_turn job past clerk place c old new number came k before after found within answer took memory clerks same result is =
    subst (λ (r : Result ClusterReply AllocError). IsPlayed job past (call.Clerk clerk c) r new) (sym is)
    (clerk_played job past clerk place c old new number came k before after found within answer took memory clerks same)

-- the clerk of a place is of the job
pub inside_job : (job : Continued) (past : Past) (clerk place : ℕ) (cluster : Cluster) → LeadsTo job past cluster → place + 1 ≡ clerk → place < length cluster.clerks.items
    → is_within clerk job.clerks ≡ true
unfolding LeadsTo
inside_job job past clerk place cluster k number within = of_job (λ n. newest_learnt n past) job.clerks cluster.clerks.items k.clerks place clerk number within

-- a clerk is asked for a key
pub look_played : (job : Continued) (past : Past) (clerk key place : ℕ) (cluster : Cluster) → LeadsTo job past cluster → place + 1 ≡ clerk → place < length cluster.clerks.items
    → (known : Option Slicing) → known ≡ get_or cluster.clerks.items place known → (told : ClusterReply) → told ≡ look_reply (look_at known key)
    → IsPlayed job past (call.Look clerk key) (Ok told) cluster
unfolding LeadsTo
look_played job past clerk key place cluster k number within known found told is =
    let own : is_within clerk job.clerks ≡ true = of_job (λ n. newest_learnt n past) job.clerks cluster.clerks.items k.clerks place clerk number within in
    let kept : known ≡ newest_learnt clerk past =
    actor_at (λ n. newest_learnt n past) (λ n. newest_learnt n past) job.clerks cluster.clerks.items k.clerks place within known found ∙ ap (λ (n : ℕ). newest_learnt n past) number in
    only_told job past (call.Look clerk key) told cluster k
    (true, tt, is ∙ ap (λ (o : Option Slicing). look_reply (look_at o key)) kept ∙ sym (by_own clerk job.clerks (look_reply (look_at (newest_learnt clerk past) key)) own))
    refl (λ n. refl) (λ n. refl) refl refl
