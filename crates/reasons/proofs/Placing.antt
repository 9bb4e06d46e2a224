-- The places of tasks after one call more.
use Rattle.std.proofs.Common.{◌≡◌, ◌∙◌, ℕ, ◌+◌, ◌<◌, Bool, true, false, List, ◌∷◌, length, refl, sym, ap, subst, arith}
use Rattle.std.specs.Prelude.{◌≢◌, ◌==◌, ◌&&◌, Some, Result, Ok, Err, OnOk, OnErr, set, get_or, slice_get, if◌then◌else◌}
use Rattle.std.proofs.lemmas.Bool.Decides.{nat_tests}
use Rattle.std.proofs.lemmas.Option.{slice_get_within}
use Rattle.lease_rule.specs.declared.lease.Kind.{Kind}
use Rattle.lease_rule.specs.declared.lease.Kind.TheVariants.{Guard, Bridge}
use Rattle.grants.specs.declared.slicelet_call.SliceletCall.{SliceletCall}
use Rattle.grants.specs.declared.slicelet_call.SliceletCall.TheVariants.{Start, Hear, Release, Resume}
use Rattle.job_calls.specs.declared.call.ClusterCall.{ClusterCall}
use Rattle.job_calls.specs.declared.call.ClusterCall.TheVariants as call
use Rattle.job_calls.specs.declared.reply.ClusterReply.{ClusterReply}
use Rattle.cluster.specs.ActorLists.{AreActors}
use Rattle.cluster.specs.Pasts.{event, is_accepted}
use Rattle.cluster.proofs.ActorLists.{actor_at, actors_set, actors_same}
use Rattle.reasons.specs.declared.places.TaskPlaces.{TaskPlaces}
use Rattle.reasons.specs.Placed.{Placed, is_hearing, with_place, places_of}
use Rattle.reasons.specs.internals.Placing.{places_after}

-- the places of a task after a call, of which is asked whether it is the task's, and accepted
abbrev places_if : Bool → Bool → SliceletCall → ℕ → TaskPlaces → TaskPlaces
places_if own accepted c place before = record {
  heard = record {
    guard = if (own && is_hearing Guard c) && accepted then Some place else before.heard.guard;
    bridge = if (own && is_hearing Bridge c) && accepted then Some place else before.heard.bridge;
  };
  calls = if own && accepted then with_place c place before.calls else before.calls;
}

hear_if : (own accepted g b : Bool) → own ≡ true → accepted ≡ true → ((own && g) && accepted ≡ g) × ((own && b) && accepted ≡ b) × (own && accepted ≡ true)
hear_if true true true true o a = (refl, refl, refl)
hear_if true true true false o a = (refl, refl, refl)
hear_if true true false true o a = (refl, refl, refl)
hear_if true true false false o a = (refl, refl, refl)
hear_if false accepted g b o a = absurd (let f : false ≡ true = o in cc)
hear_if true false g b o a = absurd (let f : false ≡ true = a in cc)

plain_if : (c : SliceletCall) (place : ℕ) (before : TaskPlaces) → places_after c place before ≡ record {
  heard = record { guard = if is_hearing Guard c then Some place else before.heard.guard; bridge = if is_hearing Bridge c then Some place else before.heard.bridge };
  calls = with_place c place before.calls;
}
plain_if (Start life at) place before = refl
plain_if (Release kind at) place before = refl
plain_if (Resume life) place before = refl
plain_if (Hear grant at) place before = by_kind_of grant.lease.kind refl
  where
    by_kind_of : (kind : Kind) → grant.lease.kind ≡ kind → places_after (Hear grant at) place before ≡ record {
      heard = record {
        guard = if is_hearing Guard (Hear grant at) then Some place else before.heard.guard;
        bridge = if is_hearing Bridge (Hear grant at) then Some place else before.heard.bridge;
      };
      calls = with_place (Hear grant at) place before.calls;
    }
    by_kind_of Guard k = rw k refl
    by_kind_of Bridge k = rw k refl

own_if : (own accepted : Bool) (c : SliceletCall) (place : ℕ) (before : TaskPlaces) → own ≡ true → accepted ≡ true
    → places_after c place before ≡ places_if own accepted c place before
own_if own accepted c place before o a =
    let f = hear_if own accepted (is_hearing Guard c) (is_hearing Bridge c) o a in
    plain_if c place before ∙ sym (rw (f.0, f.1, f.2) refl)

other_if : (own accepted g b : Bool) → own && accepted ≡ false → ((own && g) && accepted ≡ false) × ((own && b) && accepted ≡ false)
other_if true true g b e = absurd (let f : true ≡ false = e in cc)
other_if true false true true e = (refl, refl)
other_if true false true false e = (refl, refl)
other_if true false false true e = (refl, refl)
other_if true false false false e = (refl, refl)
other_if false accepted g b e = (refl, refl)

still_if : (own accepted : Bool) (c : SliceletCall) (place : ℕ) (before : TaskPlaces) → own && accepted ≡ false → before ≡ places_if own accepted c place before
still_if own accepted c place before e =
    let f = other_if own accepted (is_hearing Guard c) (is_hearing Bridge c) e in
    sym (rw (f.0, f.1, e) refl)

module _ (place : ℕ) (placed : List Placed) (many : ℕ) (tasks : List TaskPlaces) (are : AreActors (λ task. places_of task placed) many tasks) where
  abbrev with_call : ClusterCall → ClusterReply → List Placed
  with_call c r = record { place = place; event = event c r } ∷ placed

  abbrev AreNext : ClusterCall → ClusterReply → List TaskPlaces → Type 0
  AreNext c r next = AreActors (λ task. places_of task (with_call c r)) many next

  -- a call of no task
  no_task : (n : ℕ) (c : ClusterCall) (r : ClusterReply) → ((by : ℕ) (made : SliceletCall) → c ≡ call.Task by made → ⊥) → places_of n placed ≡ places_of n (with_call c r)
  no_task n (call.Task by made) r other = absurd (other by made refl)
  no_task n _ r other = refl

  pub not_of_task : (c : ClusterCall) (r : ClusterReply) → ((by : ℕ) (made : SliceletCall) → c ≡ call.Task by made → ⊥) → AreNext c r tasks
  not_of_task c r other = actors_same (λ n. places_of n placed) (λ n. places_of n (with_call c r)) many tasks (λ n. no_task n c r other) are

  -- places that are set to what they were
  pub set_again : (index : ℕ) (before after : TaskPlaces) → index < length tasks → before ≡ get_or tasks index before → after ≡ before
      → AreActors (λ task. places_of task placed) many (set tasks index after)
  set_again index before after inside found same =
      actors_set (λ n. places_of n placed) (λ n. places_of n placed) many tasks are index inside after
      (same ∙ actor_at (λ n. places_of n placed) (λ n. places_of n placed) many tasks are index inside before found) (λ i other. refl)

  module _ (by : ℕ) (made : SliceletCall) (c : ClusterCall) (is : c ≡ call.Task by made) (r : ClusterReply) where
    never : (own : Bool) → is_accepted r ≡ false → own && is_accepted r ≡ false
    never true a = a
    never false a = refl

    -- a refused one
    pub not_accepted : is_accepted r ≡ false → AreNext c r tasks
    not_accepted a =
        subst (λ (x : ClusterCall). AreNext x r tasks) (sym is)
        (actors_same (λ n. places_of n placed) (λ n. places_of n (with_call (call.Task by made) r)) many tasks
        (λ n. still_if (by == n) (is_accepted r) made place (places_of n placed) (never (by == n) a)) are)

    -- one of another task
    pub not_of_job : ((n : ℕ) → n < length tasks → n + 1 ≢ by) → AreNext c r tasks
    not_of_job other = subst (λ (x : ClusterCall). AreNext x r tasks) (sym is) (are.0, each)
      where
        each : (i : ℕ) (a : TaskPlaces) → slice_get tasks i ≡ Some a → a ≡ places_of (i + 1) (with_call (call.Task by made) r)
        each i a got =
            let inside : i < length tasks = slice_get_within tasks i a got in
            let test : (by == i + 1) ≡ false = (let f = other i inside in by_test (by == i + 1) refl f) in
            are.1 i a got ∙ still_if (by == i + 1) (is_accepted r) made place (places_of (i + 1) placed) (rw test refl)
          where
            by_test : (b : Bool) → b ≡ (by == i + 1) → i + 1 ≢ by → b ≡ false
            by_test true t f = absurd (f (let g : by ≡ i + 1 = grind (arith, nat_tests) in sym g))
            by_test false t f = refl

    -- an accepted one
    pub accepted_now : is_accepted r ≡ true → (index : ℕ) (before after : TaskPlaces) → index + 1 ≡ by → index < length tasks → before ≡ get_or tasks index before
        → after ≡ places_after made place before → AreNext c r (set tasks index after)
    accepted_now a index before after number inside found now =
        subst (λ (x : ClusterCall). AreNext x r (set tasks index after)) (sym is)
        (actors_set (λ n. places_of n placed) (λ n. places_of n (with_call (call.Task by made) r)) many tasks are index inside after here others)
      where
        was : before ≡ places_of (index + 1) placed
        was = actor_at (λ n. places_of n placed) (λ n. places_of n placed) many tasks are index inside before found

        here : after ≡ places_of (index + 1) (with_call (call.Task by made) r)
        here =
            let own : (by == index + 1) ≡ true = grind (arith, nat_tests) in
            now ∙ (ap (places_after made place) was ∙ own_if (by == index + 1) (is_accepted r) made place (places_of (index + 1) placed) own a)

        others : (i : ℕ) → i ≢ index → places_of (i + 1) placed ≡ places_of (i + 1) (with_call (call.Task by made) r)
        others i other =
            let test : (by == i + 1) ≡ false = by_test (by == i + 1) refl in
            still_if (by == i + 1) (is_accepted r) made place (places_of (i + 1) placed) (rw test refl)
          where
            by_test : (b : Bool) → b ≡ (by == i + 1) → b ≡ false
            by_test true t = absurd (other (let g : by ≡ i + 1 = grind (arith, nat_tests) in omega (arith, g, number)))
            by_test false t = refl

pub on_ok : {A E P Q : Type 0} (result : Result A E) → (P → Q) → OnOk result P → OnOk result Q
on_ok (Ok value) follows p = follows p
on_ok (Err why) follows p = p

pub on_err : {A E P Q : Type 0} (result : Result A E) → (P → Q) → OnErr result P → OnErr result Q
on_err (Ok value) follows p = p
on_err (Err why) follows p = follows p
