-- Machines that are built from what they stand at.
use Rattle.std.proofs.Common.{◌≡◌, ℕ, zero, suc, ◌+◌, ◌<◌, ◌≤◌, Bool, true, false, ◌||◌, List, [], ◌∷◌, ◌++◌, length, take, drop, refl, sym, ◌∙◌, ap, subst, arith, length-append}
use Rattle.std.specs.Prelude.{nat_le, Option, Some, None, Ok, Err, get_or, slice_get, reverse}
use Rattle.std.specs.List.{list_any}
use Rattle.std.proofs.lemmas.Bool.Decides.{nat_tests}
use Rattle.std.proofs.lemmas.List.{take_more, take-append-drop, reverse-append, append_assoc}
use Rattle.std.proofs.lemmas.List.Folds.{list_any-append}
use Rattle.std.proofs.lemmas.Option.{slice_get_within}
use Rattle.machines.specs.Answers.{Takes, with_named_reply}
use Rattle.machines.specs.declared.machine.Trouble.{Trouble}
use Rattle.machines.specs.declared.machine.Trouble.TheVariants.{Refused, NoMemory}
use Rattle.machines.specs.Refusals.{first_of, unless_refused}
use Rattle.grants.specs.declared.slicelet_call.SliceletCall.{SliceletCall}
use Rattle.grants.specs.declared.slicelet_call.SliceletCall.TheVariants.{Start, Hear, Release, Resume}
use Rattle.grants.specs.declared.slicelet_call.SliceletReply.{SliceletReply}
use Rattle.grants.specs.declared.slicelet_call.SliceletReply.TheVariants.{Started, Heard, Released, Resumed}
use Rattle.grants.specs.declared.slicelet_error.SliceletError.{SliceletError}
use Rattle.slicelet.specs.States.{SliceletState, state_after}
use Rattle.slicelet.specs.Steps.{start_checks, hear_checks, release_checks, resume_checks, slicelet_step}
use Rattle.slicelet.specs.Accepted.{checks_of, AreAccepted}
use Rattle.slicelet.proofs.Processes.{accepted_before}
use Rattle.assignment.specs.Slices.{Slicing}
use Rattle.grants.specs.Policies.{is_policy}
use Rattle.lease_table.proofs.Snapshots.{resumed_is}
use Rattle.job_calls.specs.Jobs.{Job}
use Rattle.cluster.specs.Pasts.{Past, standing, history, newest_learnt}
use Rattle.cluster.specs.ActorLists.{AreActors}
use Rattle.cluster.specs.declared.cluster.Cluster.{Cluster}
use Rattle.job_calls.specs.declared.snapshot.ClusterSnapshot.{ClusterSnapshot}
use Rattle.job_calls.specs.declared.snapshot.TaskSnapshot.{TaskSnapshot}
use Rattle.cluster.specs.continued.Jobs.{Counts}
use Rattle.cluster.specs.continued.Clusters.{AreSince, LeadsTo}
use Rattle.cluster.specs.continued.Snapshots.{Remembered, calls_in, remembered_in, continued_from, IsSnapshotOf}
use Rattle.cluster.specs.internals.Resuming.{IsPlayedTo, IsRefused, AreResumed, StandsAt}
use Rattle.cluster.proofs.ActorLists.{get_left, get_last}
use Rattle.cluster.proofs.Keeping.{after_same, steady_same}
use Rattle.cluster.proofs.Remembering.{run_remembered, steady_remembered, knows_remembered_note, knows_remembered_handle}
use Rattle.cluster.proofs.Taking.{step_unrefused}
use Rattle.cluster.proofs.TaskStates.{next_history}

-- THE CALLS OF A TASK

-- one call more
pub played_more : (task : ℕ) (calls : List SliceletCall) (c : SliceletCall) (before after : SliceletState) (reply : SliceletReply) → IsPlayedTo task calls before
    → slicelet_step before c ≡ Ok (after, reply) → IsPlayedTo task (c ∷ calls) after
played_more task calls c before after reply played step =
    let now : slicelet_step (state_after task calls) c ≡ Ok (after, reply) = subst (λ (s : SliceletState). slicelet_step s c ≡ Ok (after, reply)) played.state step in
    record {
      state = next_history task calls c (after, reply) now;
      accepted = (step_unrefused (state_after task calls) c (after, reply) now, played.accepted);
    }

unanswered : {M A S E : Type 0} (name : A → S) (o : Option E) (value : M × A) (why : E) → with_named_reply name (unless_refused o value) ≡ Err why → o ≡ None → ⊥
unanswered name None value why e none = cc
unanswered name (Some other) value why e none = cc

-- a call that is refused is not accepted
refused_step : (s : SliceletState) (c : SliceletCall) (why : SliceletError) → slicelet_step s c ≡ Err why → first_of (checks_of s c) ≡ None → ⊥
refused_step s (Start life at) why e = unanswered (λ _. Started) (first_of (start_checks s life at)) _ why e
refused_step s (Hear grant at) why e = unanswered (λ _. Heard) (first_of (hear_checks s grant at)) _ why e
refused_step s (Release kind at) why e = unanswered Released (first_of (release_checks s kind at)) _ why e
refused_step s (Resume life) why e = unanswered Resumed (first_of (resume_checks s life)) _ why e

-- so the calls that go on from it are not all accepted
refused_among : (task : ℕ) (later calls : List SliceletCall) (c : SliceletCall) (before : SliceletState) (why : SliceletError) → IsPlayedTo task calls before
    → slicelet_step before c ≡ Err why → AreAccepted task (later ++ c ∷ calls) → ⊥
refused_among task later calls c before why played step accepted =
    refused_step (state_after task calls) c why (subst (λ (s : SliceletState). slicelet_step s c ≡ Err why) played.state step) (accepted_before task later (c ∷ calls) accepted).0

module _ (task : ℕ) (calls : List SliceletCall) (first : SliceletCall) (place : ℕ) (c : SliceletCall) (inside : place < length calls) (is : c ≡ get_or calls place c)
    (before : SliceletState) (played : IsPlayedTo task (reverse (take place calls) ++ first ∷ []) before) where
  one_more : take (place + 1) calls ≡ take place calls ++ c ∷ []
  one_more = take_more calls place c inside ∙ ap (λ (x : SliceletCall). take place calls ++ x ∷ []) (sym is)

  -- the calls up to the next one, newest first
  newest : reverse (take (place + 1) calls) ++ first ∷ [] ≡ c ∷ (reverse (take place calls) ++ first ∷ [])
  newest = ap (λ (xs : List SliceletCall). reverse xs ++ first ∷ []) one_more ∙ ap (λ (xs : List SliceletCall). xs ++ first ∷ []) (reverse-append (take place calls) (c ∷ []))

  pub plays_on : (after : SliceletState) (reply : SliceletReply) → slicelet_step before c ≡ Ok (after, reply)
      → IsPlayedTo task (reverse (take (place + 1) calls) ++ first ∷ []) after
  plays_on after reply step =
      subst (λ (h : List SliceletCall). IsPlayedTo task h after) (sym newest) (played_more task (reverse (take place calls) ++ first ∷ []) c before after reply played step)

  plays_no_more : (why : SliceletError) → slicelet_step before c ≡ Err why → AreAccepted task (reverse calls ++ first ∷ []) → ⊥
  plays_no_more why step accepted =
      let later : List SliceletCall = reverse (drop (place + 1) calls) in
      let whole : reverse calls ≡ later ++ reverse (take (place + 1) calls) =
      ap (λ (xs : List SliceletCall). reverse xs) (sym (take-append-drop (place + 1) calls)) ∙ reverse-append (take (place + 1) calls) (drop (place + 1) calls) in
      let all : reverse calls ++ first ∷ [] ≡ later ++ c ∷ (reverse (take place calls) ++ first ∷ []) =
      ap (λ (xs : List SliceletCall). xs ++ first ∷ []) whole ∙ append_assoc later (reverse (take (place + 1) calls)) (first ∷ []) ∙ ap (λ (xs : List SliceletCall). later ++ xs) newest in
      refused_among task later (reverse (take place calls) ++ first ∷ []) c before why played step (subst (λ (h : List SliceletCall). AreAccepted task h) all accepted)

  -- why the next call is not answered
  pub plays_no_further : (after : SliceletState) (trouble : Trouble SliceletError) → Takes (slicelet_step before c) before (Err trouble) after → IsRefused task (reverse calls ++ first ∷ []) trouble
  plays_no_further after (Refused why) took = plays_no_more why took.0
  plays_no_further after NoMemory took = tt

-- WHAT IS REMEMBERED

or_turned : (a b : Bool) → (a || b) ≡ (b || (a || false))
or_turned true true = refl
or_turned true false = refl
or_turned false true = refl
or_turned false false = refl

-- one member more is found as the last of a list is
pub known_more : {A : Type 0} (same : A → A → Bool) → ((a b : A) → same a b ≡ same b a) → (xs : List A) (place : ℕ) (x : A) → place < length xs → x ≡ get_or xs place x
    → (before after : A → Bool) → ((y : A) → before y ≡ list_any (same y) (take place xs)) → ((y : A) → after y ≡ (same x y || before y))
    → (y : A) → after y ≡ list_any (same y) (take (place + 1) xs)
known_more {A = A} same turned xs place x inside is before after were now y =
    let more : take (place + 1) xs ≡ take place xs ++ x ∷ [] = take_more xs place x inside ∙ ap (λ (z : A). take place xs ++ z ∷ []) (sym is) in
    now y ∙ ap (λ (b : Bool). same x y || b) (were y) ∙ ap (λ (b : Bool). b || list_any (same y) (take place xs)) (turned x y)
    ∙ or_turned (same y x) (list_any (same y) (take place xs))
    ∙ sym (ap (λ (zs : List A). list_any (same y) zs) more ∙ list_any-append (same y) (take place xs) (x ∷ []))

-- one slicelet more
pub resumed_more : (many : ℕ) (tasks : List TaskSnapshot) (slicelets : List SliceletState) (task : TaskSnapshot) (slicelet : SliceletState) → AreResumed many tasks slicelets
    → slice_get tasks many ≡ Some task → IsPlayedTo (many + 1) (calls_in task) slicelet → AreResumed (many + 1) tasks (slicelets ++ slicelet ∷ [])
resumed_more many tasks slicelets task slicelet are here played = record {
  all = length-append slicelets (slicelet ∷ []) ∙ ap (λ (n : ℕ). n + 1) are.all;
  each = each;
}
  where
    each : (i : ℕ) (other : TaskSnapshot) (state : SliceletState) → slice_get tasks i ≡ Some other → slice_get (slicelets ++ slicelet ∷ []) i ≡ Some state
        → IsPlayedTo (i + 1) (calls_in other) state
    each i other state of_task got = by_place (nat_le (length slicelets) i) refl
      where
        by_place : (b : Bool) → b ≡ nat_le (length slicelets) i → IsPlayedTo (i + 1) (calls_in other) state
        by_place true t =
            let within : i < length (slicelets ++ slicelet ∷ []) = slice_get_within (slicelets ++ slicelet ∷ []) i state got in
            let count = length-append slicelets (slicelet ∷ []) in
            let last : i ≡ length slicelets = (let high : length slicelets ≤ i = grind (arith, nat_tests) in omega (arith, within, count, high)) in
            let same : many ≡ i = sym are.all ∙ sym last in
            let both : Some slicelet ≡ Some state = sym (get_last slicelets slicelet) ∙ ap (slice_get (slicelets ++ slicelet ∷ [])) (sym last) ∙ got in
            let tasks_both : Some task ≡ Some other = sym here ∙ ap (slice_get tasks) same ∙ of_task in
            let one : slicelet ≡ state = cc in
            let one_task : task ≡ other = cc in
            subst (λ (n : ℕ). IsPlayedTo (n + 1) (calls_in other) state) same
            (subst (λ (t : TaskSnapshot). IsPlayedTo (many + 1) (calls_in t) state) one_task (subst (λ (s : SliceletState). IsPlayedTo (many + 1) (calls_in task) s) one played))
        by_place false t = are.each i other state of_task (sym (get_left slicelets (slicelet ∷ []) i (grind (arith, nat_tests))) ∙ got)

-- nothing is kept of what was made so far
none_since : {A : Type 0} (many : ℕ) (made kept : List A) → many ≡ length made → kept ≡ [] → AreSince many made (reverse kept)
none_since many made kept count none = record { before = made; many = sym count; all = ap (λ (xs : List _). reverse xs ++ made) (sym none) }

-- THE CLUSTER

there_is_one : {A : Type 0} (xs : List A) (i : ℕ) → i < length xs → slice_get xs i ≡ None → ⊥
there_is_one [] i l e = omega (arith, l)
there_is_one (x ∷ xs) zero l e = cc
there_is_one (x ∷ xs) (suc i) l e = there_is_one xs i (omega (arith, l)) e

-- the slicelets are what the past made of the tasks
resumed_actors : (job : Job) (past : Past) (s : ClusterSnapshot) → IsSnapshotOf job past s → (slicelets : List SliceletState) → AreResumed job.tasks s.tasks.items slicelets
    → AreActors (λ n. history n past) job.tasks slicelets
resumed_actors job past s is slicelets are = (are.all, each)
  where
    each : (i : ℕ) (slicelet : SliceletState) → slice_get slicelets i ≡ Some slicelet → slicelet ≡ history (i + 1) past
    each i slicelet got = by_task (slice_get s.tasks.items i) refl
      where
        inside : i < length s.tasks.items
        inside = let l = slice_get_within slicelets i slicelet got in let all = are.all in let tasks = is.all_tasks in omega (arith, l, all, tasks)

        by_task : (o : Option TaskSnapshot) → slice_get s.tasks.items i ≡ o → slicelet ≡ history (i + 1) past
        by_task None e = absurd (there_is_one s.tasks.items i inside e)
        by_task (Some task) e = (are.each i task slicelet e got).state ∙ sym (is.tasks i task e).state

pub stands_leads : (job : Job) → is_policy job.policy ≡ true → (s : ClusterSnapshot) (slicelets : List SliceletState) (cluster : Cluster) → AreResumed job.tasks s.tasks.items slicelets
    → StandsAt job s slicelets cluster → (past : Past) → IsSnapshotOf job past s → LeadsTo (continued_from job past (remembered_in s)) past cluster
unfolding LeadsTo
stands_leads job within s slicelets cluster are at past is =
    let r : Remembered = remembered_in s in
    record {
      run = run_remembered job past r is.run;
      within = within;
      same_job = at.same_job;
      table = at.table ∙ resumed_is (standing job.policy past) s.table is.table;
      tasks = subst (λ (xs : List SliceletState). AreActors (λ n. history n past) job.tasks xs) (sym at.tasks) (resumed_actors job past s is slicelets are);
      clerks = subst (λ (xs : List (Option Slicing)). AreActors (λ n. newest_learnt n past) job.clerks xs) (sym at.clerks) is.clerks;
      grants = after_same _ _ _ _ _ (ap (λ (c : Counts). c.grants) at.earlier) at.grants is.grants;
      notes = none_since _ _ _ (ap (λ (c : Counts). c.notes) at.earlier ∙ is.many_notes) at.notes;
      handles = none_since _ _ _ (ap (λ (c : Counts). c.handles) at.earlier ∙ is.many_handles) at.handles;
      proposals = after_same _ _ _ _ _ (ap (λ (c : Counts). c.proposals) at.earlier) at.proposals is.proposals;
      earlier_notes = ap (λ (c : Counts). c.notes) at.earlier ∙ is.many_notes;
      earlier_handles = ap (λ (c : Counts). c.handles) at.earlier ∙ is.many_handles;
      known_notes = λ note. at.known_notes note ∙ knows_remembered_note job past r is.notes note;
      known_handles = λ handle. at.known_handles handle ∙ knows_remembered_handle job past r is.handles handle;
      steady = steady_same _ past _ (steady_remembered job past r s.notes_made s.handles_made) cluster.earlier at.earlier;
    }
