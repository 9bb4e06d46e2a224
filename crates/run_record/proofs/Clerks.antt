-- The clerks of a record.
use Rattle.std.proofs.Common.{◌≡◌, ℕ, ◌+◌, ◌<◌, Bool, true, false, List, [], ◌∷◌, length, refl, sym, ◌∙◌, ap, subst, arith}
use Rattle.std.specs.Prelude.{◌≢◌, ◌==◌, nat_le, nat_lt, Option, Some, None, Result, Ok, Err, set, get_or, if◌then◌else◌}
use Rattle.std.proofs.lemmas.Bool.Decides.{nat_tests}
use Rattle.machines.specs.Answers.{with_named_reply}
use Rattle.machines.specs.Refusals.{when, first_of, unless_refused}
use Rattle.machines.specs.Numbers.{is_within}
use Rattle.assignment.specs.Slices.{Slicing}
use Rattle.clerk.specs.declared.call.ClerkCall.{ClerkCall}
use Rattle.clerk.specs.declared.call.ClerkCall.TheVariants.{Learn, Forget}
use Rattle.clerk.specs.declared.call.ClerkReply.{ClerkReply}
use Rattle.clerk.specs.declared.call.ClerkReply.TheVariants.{Learnt}
use Rattle.clerk.specs.declared.error.ClerkError.{ClerkError}
use Rattle.clerk.specs.declared.error.ClerkError.TheVariants.{Old}
use Rattle.clerk.specs.Calls.{clerk_step}
use Rattle.clerk.specs.Knowledge.{accepted_with, greater, greatest_of}
use Rattle.job_calls.specs.declared.call.ClusterCall.{ClusterCall}
use Rattle.job_calls.specs.declared.call.ClusterCall.TheVariants as call
use Rattle.job_calls.specs.declared.error.ClusterError.{ClusterError}
use Rattle.job_calls.specs.declared.error.ClusterError.TheVariants as error
use Rattle.job_calls.specs.declared.reply.ClusterReply.{ClusterReply}
use Rattle.job_calls.specs.declared.reply.ClusterReply.TheVariants as reply
use Rattle.cluster.specs.ActorLists.{AreActors}
use Rattle.cluster.specs.Answers.{unless, from_machine}
use Rattle.cluster.specs.Pasts.{event, Past, is_accepted, learnt_by, newest_learnt}
use Rattle.cluster.specs.continued.Deliveries.{clerk_refusal}
use Rattle.cluster.specs.continued.Jobs.{Continued}
use Rattle.cluster.specs.continued.Runs.{IsReply}
use Rattle.cluster.proofs.ActorLists.{actor_at, actors_set, actors_same}
use Rattle.cluster.proofs.Turning.{left_is}
use Rattle.run_record.specs.internals.{left_by, clerk_after}

-- A STEP

-- an assignment that is learnt is above the greatest before it
learnt_greatest : (slicing : Slicing) (g new : Option Slicing) (told : ClerkReply) → clerk_step g (Learn slicing) ≡ Ok (new, told) → new ≡ Some (greater slicing g)
learnt_greatest slicing None new told e = sym (left_is _ _ e)
learnt_greatest slicing (Some kept) new told e = by_test (nat_le slicing.generation kept.generation) refl e
  where
    left : Option Slicing × Unit {0}
    left = (Some slicing, tt)

    by_test : (b : Bool) → b ≡ nat_le slicing.generation kept.generation
        → with_named_reply (λ _. Learnt) (unless_refused (first_of (when b (Old kept.generation) ∷ [])) left) ≡ Ok (new, told) → new ≡ Some (if nat_lt slicing.generation kept.generation then kept else slicing)
    by_test true t e = absurd (cc)
    by_test false t e =
        let above : nat_lt slicing.generation kept.generation ≡ false = grind (arith, nat_tests) in
        let kept_now : new ≡ Some slicing = sym (left_is _ _ e) in
        rw above kept_now

next_newest : (before : List Slicing) (c : ClerkCall) (new : Option Slicing) (told : ClerkReply) → clerk_step (greatest_of before) c ≡ Ok (new, told)
    → new ≡ greatest_of (accepted_with c before)
next_newest before (Learn slicing) new told e = learnt_greatest slicing (greatest_of before) new told e
next_newest before Forget new told e = sym (left_is _ _ e)

-- an accepted call of a clerk was taken, and its reply is the clerk's
record IsTaken (step : Result (Option Slicing × ClerkReply) ClerkError) (told : ClusterReply) : Type 0 where
  left : Option Slicing × ClerkReply
  taken : step ≡ Ok left
  is : told ≡ reply.Clerk left.1

pub refused_unaccepted : {X : Type 0} (told : ClusterReply) (why : ClusterError) → told ≡ reply.Refused why → is_accepted told ≡ true → X
refused_unaccepted told why e a = absurd (let f : is_accepted (reply.Refused why) ≡ true = subst (λ (t : ClusterReply). is_accepted t ≡ true) e a in let g : false ≡ true = f in cc)

of_clerk : (own : Bool) (refusal : Option ClusterError) (step : Result (Option Slicing × ClerkReply) ClerkError) (told : ClusterReply)
    → told ≡ (if own then unless refusal (from_machine error.Clerk reply.Clerk step) else reply.Refused error.NoActor) → is_accepted told ≡ true → IsTaken step told
of_clerk false refusal step told e a = refused_unaccepted told error.NoActor e a
of_clerk true (Some why) step told e a = refused_unaccepted told why e a
of_clerk true None (Err why) told e a = refused_unaccepted told (error.Clerk why) e a
of_clerk true None (Ok p) told e a = record { left = p; taken = refl; is = e }

clerk_taken : (job : Continued) (past : Past) (by : ℕ) (c : ClerkCall) (told : ClusterReply) → IsReply job past (event (call.Clerk by c) told) → is_accepted told ≡ true
    → IsTaken (clerk_step (newest_learnt by past) c) told
clerk_taken job past by c told answered a =
    of_clerk (is_within by job.clerks) (clerk_refusal job.forgotten past c) (clerk_step (newest_learnt by past) c) told answered.2 a

-- ALL CLERKS

own_next : (past : Past) (by n : ℕ) (c : ClerkCall) (told : ClerkReply) → n ≡ by
    → greatest_of (accepted_with c (learnt_by n past)) ≡ newest_learnt n (event (call.Clerk by c) (reply.Clerk told) ∷ past)
own_next past by n c told same = let test : (by == n) ≡ true = grind (arith, nat_tests) in rw test refl

other_next : (past : Past) (by n : ℕ) (c : ClerkCall) (told : ClerkReply) → n ≢ by
    → newest_learnt n past ≡ newest_learnt n (event (call.Clerk by c) (reply.Clerk told) ∷ past)
other_next past by n c told other = let test : (by == n) ≡ false = grind (arith, nat_tests) in rw test refl

-- an accepted call of a clerk
pub clerks_next : (job : Continued) (past : Past) (by place : ℕ) (c : ClerkCall) (r : ClerkReply) (many : ℕ) (clerks : List (Option Slicing)) (before after : Option Slicing)
    → IsReply job past (event (call.Clerk by c) (reply.Clerk r)) → AreActors (λ n. newest_learnt n past) many clerks → place + 1 ≡ by → place < length clerks
    → before ≡ get_or clerks place before → after ≡ clerk_after c before → AreActors (λ n. newest_learnt n (event (call.Clerk by c) (reply.Clerk r) ∷ past)) many (set clerks place after)
clerks_next job past by place c r many clerks before after answered are number inside found is =
    actors_set (λ n. newest_learnt n past) (λ n. newest_learnt n later) many clerks are place inside after now
    (λ i other. other_next past by (i + 1) c r (λ same. other (omega arith)))
  where
    later : Past
    later = event (call.Clerk by c) (reply.Clerk r) ∷ past

    was : before ≡ newest_learnt by past
    was = actor_at (λ n. newest_learnt n past) (λ n. newest_learnt n past) many clerks are place inside before found ∙ ap (λ (n : ℕ). newest_learnt n past) number

    t : IsTaken (clerk_step (newest_learnt by past) c) (reply.Clerk r)
    t = clerk_taken job past by c (reply.Clerk r) answered refl

    left : clerk_after c (newest_learnt by past) ≡ t.left.0
    left = ap (left_by (newest_learnt by past)) t.taken

    now : after ≡ newest_learnt (place + 1) later
    now =
        is ∙ ap (clerk_after c) was ∙ left ∙ next_newest (learnt_by by past) c t.left.0 t.left.1 t.taken
        ∙ ap (λ (n : ℕ). greatest_of (accepted_with c (learnt_by n past))) (sym number) ∙ own_next past by (place + 1) c r number

-- A CALL THAT NO CLERK ACCEPTED

either : {A : Type 0} (b : Bool) (x : A) → (if b then x else x) ≡ x
either true x = refl
either false x = refl

abbrev pub answered_by_clerk : ClusterReply → Bool
answered_by_clerk (reply.Clerk r) = true
answered_by_clerk _ = false

pub unanswered : (job : Continued) (past : Past) (by : ℕ) (c : ClerkCall) (told : ClusterReply) → IsReply job past (event (call.Clerk by c) told) → answered_by_clerk told ≡ false
    → is_accepted told ≡ false
unanswered job past by c told answered none = by_test (is_accepted told) refl
  where
    by_test : (b : Bool) → is_accepted told ≡ b → b ≡ false
    by_test false a = refl
    by_test true a = absurd (let t = clerk_taken job past by c told answered a in let h : answered_by_clerk (reply.Clerk t.left.1) ≡ false = subst (λ (x : ClusterReply). answered_by_clerk x ≡ false) t.is none in let g : true ≡ false = h in cc)

unaccepted : (past : Past) (by n : ℕ) (c : ClerkCall) (told : ClusterReply) → is_accepted told ≡ false → learnt_by n (event (call.Clerk by c) told ∷ past) ≡ learnt_by n past
unaccepted past by n c told none = rw none (either (by == n) (learnt_by n past))

pub clerks_still : (past : Past) (by : ℕ) (c : ClerkCall) (told : ClusterReply) (many : ℕ) (clerks : List (Option Slicing)) → is_accepted told ≡ false
    → AreActors (λ n. newest_learnt n past) many clerks → AreActors (λ n. newest_learnt n (event (call.Clerk by c) told ∷ past)) many clerks
clerks_still past by c told many clerks none are =
    actors_same (λ n. newest_learnt n past) (λ n. newest_learnt n (event (call.Clerk by c) told ∷ past)) many clerks
    (λ n. ap greatest_of (sym (unaccepted past by n c told none))) are

-- WHAT IS RECORDED

no_clerk : (past : Past) (n : ℕ) (c : ClusterCall) (told : ClusterReply) → ((by : ℕ) (made : ClerkCall) → c ≡ call.Clerk by made → ⊥) → learnt_by n (event c told ∷ past) ≡ learnt_by n past
no_clerk past n (call.Clerk by made) told other = absurd (other by made refl)
no_clerk past n _ told other = refl

no_answer : (told : ClusterReply) → ((r : ClerkReply) → told ≡ reply.Clerk r → ⊥) → answered_by_clerk told ≡ false
no_answer (reply.Clerk r) other = absurd (other r refl)
no_answer _ other = refl

module _ (job : Continued) (past : Past) (c : ClusterCall) (told : ClusterReply) (answered : IsReply job past (event c told)) (clerks : List (Option Slicing))
    (are : AreActors (λ n. newest_learnt n past) job.clerks clerks) where
  -- another call
  pub not_of_clerk : ((by : ℕ) (made : ClerkCall) → c ≡ call.Clerk by made → ⊥) → AreActors (λ n. newest_learnt n (event c told ∷ past)) job.clerks clerks
  not_of_clerk other =
      actors_same (λ n. newest_learnt n past) (λ n. newest_learnt n (event c told ∷ past)) job.clerks clerks (λ n. ap greatest_of (sym (no_clerk past n c told other))) are

  module _ (by : ℕ) (made : ClerkCall) (is : c ≡ call.Clerk by made) where
    of_clerk_call : IsReply job past (event (call.Clerk by made) told)
    of_clerk_call = subst (λ (x : ClusterCall). IsReply job past (event x told)) is answered

    -- a refused call
    pub not_answered : ((r : ClerkReply) → told ≡ reply.Clerk r → ⊥) → AreActors (λ n. newest_learnt n (event c told ∷ past)) job.clerks clerks
    not_answered other =
        subst (λ (x : ClusterCall). AreActors (λ n. newest_learnt n (event x told ∷ past)) job.clerks clerks) (sym is)
        (clerks_still past by made told job.clerks clerks (unanswered job past by made told of_clerk_call (no_answer told other)) are)

    -- an accepted one
    pub answered_now : (r : ClerkReply) → told ≡ reply.Clerk r → (place : ℕ) (before after : Option Slicing) → place + 1 ≡ by → place < length clerks
        → before ≡ get_or clerks place before → after ≡ clerk_after made before → AreActors (λ n. newest_learnt n (event c told ∷ past)) job.clerks (set clerks place after)
    answered_now r told_is place before after number inside found now =
        subst (λ (x : ClusterCall). AreActors (λ n. newest_learnt n (event x told ∷ past)) job.clerks (set clerks place after)) (sym is)
        (subst (λ (x : ClusterReply). AreActors (λ n. newest_learnt n (event (call.Clerk by made) x ∷ past)) job.clerks (set clerks place after)) (sym told_is)
        (clerks_next job past by place made r job.clerks clerks before after (subst (λ (x : ClusterReply). IsReply job past (event (call.Clerk by made) x)) told_is of_clerk_call) are number
        inside found now))
