-- A handle keeps its number, and what a `hold` and a `check` tell of it.
use Rattle.std.proofs.Common.{◌≡◌, ℕ, ◌+◌, ◌-◌, Bool, true, false, List, [], ◌∷◌, ◌++◌, length, refl, sym, ◌∙◌, ap, subst, inl, inr, arith}
use Rattle.std.specs.Prelude.{Option, Some, None, Result, Ok, Err, ◌==◌, Contains, reverse, slice_get, IsTrue, ◌↔◌, if◌then◌else◌}
use Rattle.std.proofs.lemmas.Bool.Decides.{nat_tests}
use Rattle.std.proofs.lemmas.List.{length-reverse}
use Rattle.std.proofs.lemmas.List.Folds.{list_any_at}
use Rattle.std.proofs.lemmas.Option.{slice_get_within, get_or_from_slice_get}
use mathlib.Core.List.{reverse-cons}
use Rattle.machines.specs.Numbers.{is_within}
use Rattle.slice_ranges.specs.Hash.{slice_key}
use Rattle.lease_rule.specs.declared.answer.Verdict.{Verdict}
use Rattle.lease_rule.specs.declared.answer.Verdict.TheVariants.{Allow, Deny}
use Rattle.key_handle.specs.declared.handle.KeyHandle.{KeyHandle}
use Rattle.slicelet.specs.Continuity.{handle_on, held_by, is_strange, IsContinuous}
use Rattle.job_calls.specs.declared.call.ClusterCall.{ClusterCall}
use Rattle.job_calls.specs.declared.call.ClusterCall.TheVariants as call
use Rattle.job_calls.specs.declared.error.ClusterError.TheVariants as error
use Rattle.job_calls.specs.declared.reply.ClusterReply.{ClusterReply}
use Rattle.job_calls.specs.declared.reply.ClusterReply.TheVariants as machine
use Rattle.cluster.specs.Numbers.{with_number}
use Rattle.cluster.specs.Pasts.{event as cluster_event, Past as ClusterPast, history, task_calls}
use Rattle.cluster.specs.Deliveries.{same_handle, handle_told, with_handle, handles_made as handles_given, is_given}
use Rattle.cluster.specs.Replies.{covers, rule_in, hold_reply}
use Rattle.cluster.proofs.ActorLists.{get_left, get_last}
use Rattle.cluster.proofs.Finding.{any_reversed}
use Rattle.cluster.proofs.Noting.{same_number}
use Rattle.world.specs.Jobs.{Job}
use Rattle.world.specs.declared.step.Step.{Step}
use Rattle.world.specs.declared.step.Step.TheVariants as step
use Rattle.replies.specs.declared.reply.Reply.{Reply}
use Rattle.replies.specs.declared.reply.Reply.TheVariants as reply
use Rattle.replies.specs.declared.reply.Refusal.{Refusal}
use Rattle.replies.specs.declared.reply.Refusal.TheVariants as refusal
use Rattle.replies.specs.declared.told.NextNumbers.{NextNumbers}
use Rattle.world.specs.Pasts.{event, Past}
use Rattle.world.specs.Calls.{if_sent, call_of, with_call, calls_in, handles_made}
use Rattle.world.specs.Replies.{is_continuous_in, named, next_numbers, reply_by_call}
use Rattle.replies.specs.Told.{told_as}
use Rattle.world.specs.Runs.{IsReply}
use Rattle.world.specs.Headline.{IsCheckedByHistory}
use Rattle.world.proofs.Telling.{own_check_reply, calls_after}
use Rattle.world.proofs.Asking.{replied_by_call, outcome_of_call}

-- A HANDLE KEEPS ITS NUMBER

module _ (number : ℕ) (handle : KeyHandle) where
  abbrev pub IsNumbered : List KeyHandle → Type 0
  IsNumbered made = with_number number (reverse made) ≡ Some handle

  numbered_left : (made more : List KeyHandle) → with_number number made ≡ Some handle → with_number number (made ++ more) ≡ Some handle
  numbered_left made more e = by_test (number == 0) e
    where
      by_test : (b : Bool) → (if b then None else slice_get made (number - 1)) ≡ Some handle
          → (if b then None else slice_get (made ++ more) (number - 1)) ≡ Some handle
      by_test true e = absurd (cc)
      by_test false e = get_left made more (number - 1) (slice_get_within made (number - 1) handle e) ∙ e

  one_more : (new : KeyHandle) (made : List KeyHandle) → IsNumbered made → IsNumbered (new ∷ made)
  one_more new made e = ap (λ (hs : List KeyHandle). with_number number hs) (reverse-cons new made) ∙ numbered_left (reverse made) (new ∷ []) e

  told_more : (r : ClusterReply) (made : List KeyHandle) → IsNumbered made → IsNumbered (handle_told r made)
  told_more (machine.Holding new) made e = one_more new made e
  told_more _ made e = e

  call_more : (c : ClusterCall) (r : ClusterReply) (made : List KeyHandle) → IsNumbered made → IsNumbered (with_handle c r made)
  call_more (call.Hold task key at) r made e = told_more r made e
  call_more _ r made e = e

  pub handle_stays : (later calls : ClusterPast) → IsNumbered (handles_given calls) → IsNumbered (handles_given (later ++ calls))
  handle_stays [] calls made = made
  handle_stays (e ∷ later) calls made = call_more e.call e.reply (handles_given (later ++ calls)) (handle_stays later calls made)

  -- what has a number was made
  made_of_number : (made : List KeyHandle) → with_number number made ≡ Some handle → Contains made handle
  made_of_number made e = by_test (number == 0) e
    where
      by_test : (b : Bool) → (if b then None else slice_get made (number - 1)) ≡ Some handle → Contains made handle
      by_test true e = absurd (cc)
      by_test false e = (number - 1, slice_get_within made (number - 1) handle e, get_or_from_slice_get made (number - 1) handle handle e)

  own_handle : same_handle handle handle ≡ true
  own_handle = rw (same_number handle.task, same_number handle.life, same_number handle.key, same_number handle.position) refl

  pub given_of_number : (calls : ClusterPast) → IsNumbered (handles_given calls) → is_given calls handle ≡ true
  given_of_number calls e =
      let among = made_of_number (reverse (handles_given calls)) e in
      any_reversed (same_handle handle) (handles_given calls) (reverse (handles_given calls)) refl
      ∙ list_any_at (same_handle handle) (reverse (handles_given calls)) among.0 handle among.1 (ap (same_handle handle) among.2 ∙ own_handle)

last_numbered : (made : List KeyHandle) (handle : KeyHandle) → IsNumbered (length made + 1) handle (handle ∷ made)
last_numbered made handle =
    let some : (length made + 1 == 0) ≡ false = grind (arith, nat_tests) in
    let place : length made + 1 - 1 ≡ length (reverse made) = (let same = length-reverse made in omega (arith, same)) in
    ap (λ (hs : List KeyHandle). with_number (length made + 1) hs) (reverse-cons handle made)
    ∙ (let last : slice_get (reverse made ++ handle ∷ []) (length (reverse made)) ≡ Some handle = get_last (reverse made) handle in rw (some, place) last)

-- THE HOLD

module _ (s : Step) (next : NextNumbers) where
  abbrev told_hold : Bool → Verdict → KeyHandle → ClusterReply
  told_hold b v made = if b then hold_reply (held_by v made) else machine.Refused error.NoActor

  hold_told : (b : Bool) (v : Verdict) (made handle : KeyHandle) (number : ℕ) → reply.Holding number handle ≡ told_as (named s) next (told_hold b v made)
      → (number ≡ next.handle) × (made ≡ handle) × (machine.Holding handle ≡ told_hold b v made)
  hold_told true (Allow kind generation) made handle number e =
      let same : handle ≡ made = cc in
      let place : number ≡ next.handle = cc in
      (place, sym same, ap (λ (h : KeyHandle). machine.Holding h) same)
  hold_told true (Deny why) made handle number e = absurd (cc)
  hold_told false v made handle number e = absurd (cc)

module _ (job : Job) (past : Past) (task : ℕ) (key : List ℕ) (at number : ℕ) (handle : KeyHandle) where
  abbrev before_hold : ClusterPast
  before_hold = calls_in job past

  -- a `hold` that is answered with a handle gives this number to the one that its task takes
  pub record IsTaken : Type 0 where
    pub event_now : calls_in job (event (step.Hold task key at) (reply.Holding number handle) ∷ past) ≡ cluster_event (call.Hold task (slice_key key) at) (machine.Holding handle) ∷ before_hold
    pub numbered_now : IsNumbered number handle (handles_given (cluster_event (call.Hold task (slice_key key) at) (machine.Holding handle) ∷ before_hold))
    pub taken : handle_on (slice_key key) (history task before_hold) ≡ handle

  pub hold_taken : IsReply job past (event (step.Hold task key at) (reply.Holding number handle)) → IsTaken
  hold_taken h =
      elim h [
        | inl answered ↦ (
            let s = step.Hold task key at in
            let made = call.Hold task (slice_key key) at in
            let told = hold_told s (next_numbers before_hold) (is_within task job.tasks) (rule_in before_hold task (slice_key key) at) (handle_on (slice_key key) (history task before_hold)) handle number answered.2 in
            record {
              event_now = calls_after job before_hold past s made false (machine.Holding handle) (reply.Holding number handle) refl told.2 (ap (λ (n : ℕ). reply.Holding n handle) told.0);
              numbered_now = subst (λ (n : ℕ). IsNumbered n handle (handle ∷ handles_given before_hold)) (sym told.0) (last_numbered (handles_given before_hold) handle);
              taken = told.1;
            })
        | inr none ↦ absurd (cc)
      ]

-- THE CHECK

module _ (s : Step) (next : NextNumbers) where
  check_told : (b given strange kept : Bool) → reply.Continuous ≡ told_as (named s) next (own_check_reply b given strange kept) → machine.Continuous ≡ own_check_reply b given strange kept
  check_told true true false true e = refl
  check_told true true false false e = absurd (cc)
  check_told true true true kept e = absurd (cc)
  check_told true false strange kept e = absurd (cc)
  check_told false given strange kept e = absurd (cc)

  pub familiar_told : (b given strange kept : Bool) → b ≡ true → given ≡ true → strange ≡ false → told_as (named s) next (own_check_reply b given strange kept) ≡ (if kept then reply.Continuous else reply.Broken)
  familiar_told true true false true e f g = refl
  familiar_told true true false false e f g = refl
  familiar_told true true true kept e f g = absurd (let h : true ≡ false = g in cc)
  familiar_told true false strange kept e f g = absurd (let h : false ≡ true = f in cc)
  familiar_told false given strange kept e f g = absurd (let h : false ≡ true = e in cc)

module _ (job : Job) (past : Past) (task number at : ℕ) (handle : KeyHandle) where
  abbrev before_check : ClusterPast
  before_check = calls_in job past

  abbrev deliver : KeyHandle → ClusterCall
  deliver h = call.Check task h at

  check_call : (b : Bool) (o : Option KeyHandle) → b ≡ true → o ≡ Some handle
      → (if b then if_sent o deliver else (let none : Result ClusterCall Refusal = Err refusal.NoActor in none)) ≡ Ok (deliver handle)
  check_call true None e f = absurd (cc)
  check_call true (Some h) e f = let same : h ≡ handle = cc in ap (λ (x : KeyHandle). let made : Result ClusterCall Refusal = Ok (deliver x) in made) same
  check_call false o e f = absurd (let g : false ≡ true = e in cc)

  -- a `check` that was told that its handle is continuous is of a task of the job
  inside_job : (b : Bool) (o : Option KeyHandle) (kept : Bool) → reply.Continuous ≡ reply_by_call job before_check (step.Check task number at) kept (if b then if_sent o deliver else Err refusal.NoActor)
      → b ≡ true
  inside_job true o kept e = refl
  inside_job false o kept e = absurd (cc)

  pub check_found : IsNumbered number handle (handles_given before_check) → IsReply job past (event (step.Check task number at) reply.Continuous)
      → calls_in job (event (step.Check task number at) reply.Continuous ∷ past) ≡ cluster_event (deliver handle) machine.Continuous ∷ before_check
  check_found made h =
      elim h [
        | inl answered ↦ (
            let s = step.Check task number at in
            let kept = is_continuous_in answered.0 in
            let given = with_number number (reverse (handles_given before_check)) in
            let inside = inside_job (is_within task job.tasks) given kept answered.2 in
            let is : call_of job past before_check s ≡ Ok (deliver handle) = check_call (is_within task job.tasks) given inside made in
            let told = answered.2 ∙ replied_by_call job past before_check (deliver handle) s answered.0 is refl in
            let reply_is = check_told s (next_numbers before_check) (is_within task job.tasks) (is_given before_check handle) (is_strange (history task before_check) handle) kept told in
            ap (λ (o : Result ClusterCall Refusal). with_call reply.Continuous o before_check) is ∙ calls_after job before_check past s (deliver handle) kept machine.Continuous reply.Continuous is reply_is refl)
        | inr none ↦ absurd (let f : reply.Continuous ≡ reply.NoMemory = none.0 in cc)
      ]

  told_by_history : (answer : Reply) (kept : Bool) → (IsTrue kept ↔ IsContinuous (covers before_check handle.key) (task_calls task before_check) handle at)
      → answer ≡ (if kept then reply.Continuous else reply.Broken) → IsCheckedByHistory job past task handle at answer
  told_by_history answer true told e = record { continuous = (λ q. told.0 refl, λ k. e); broken = (λ q. absurd (cc), λ n. absurd (n (told.0 refl))) }
  told_by_history answer false told e = record {
    continuous = (λ q. absurd (cc), λ k. absurd (let f : false ≡ true = told.1 k in cc));
    broken = (λ q k. (let f : false ≡ true = told.1 k in absurd (cc)), λ n. e);
  }

  -- a `check` takes no memory
  pub checked_by_history : (answer : Reply) → IsReply job past (event (step.Check task number at) answer)
      → IsTrue (is_within task job.tasks) → with_number number (handles_made job past) ≡ Some handle → is_strange (history task before_check) handle ≡ false
      → IsCheckedByHistory job past task handle at answer
  checked_by_history answer h inside made familiar =
      elim h [
        | inl answered ↦ (
            let s = step.Check task number at in
            let kept = is_continuous_in answered.0 in
            let is : call_of job past before_check s ≡ Ok (deliver handle) = check_call (is_within task job.tasks) (with_number number (reverse (handles_given before_check))) inside made in
            let given = given_of_number number handle before_check made in
            let told = answered.2 ∙ (replied_by_call job past before_check (deliver handle) s answered.0 is refl
            ∙ familiar_told s (next_numbers before_check) (is_within task job.tasks) (is_given before_check handle) (is_strange (history task before_check) handle) kept inside given familiar) in
            told_by_history answer kept (outcome_of_call job past before_check (deliver handle) s answered.0 is refl answered.1 inside given familiar) told)
        | inr none ↦ absurd (let f : false ≡ true = none.1 in cc)
      ]
