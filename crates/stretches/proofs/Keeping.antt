-- What is kept of a task's calls after one more, and as stretches.
use Rattle.std.proofs.Common.{◌≡◌, ℕ, ◌+◌, ◌<◌, ◌≤◌, Bool, true, false, List, [], ◌∷◌, refl, sym, ◌∙◌, ap, subst, inl, inr, arith, eqb-true}
use Rattle.std.proofs.lemmas.Bool.Decides.{nat_tests}
use Rattle.std.specs.Prelude.{Option, Some, None, ◌==◌, min, ◌&&◌, ◌||◌, nat_lt, nat_le, reverse, if◌then◌else◌}
use Rattle.machines.specs.Refusals.{when, first_of}
use Rattle.grants.specs.declared.slicelet_error.SliceletError.{SliceletError}
use Rattle.grants.specs.declared.slicelet_call.SliceletCall.{SliceletCall}
use Rattle.grants.specs.declared.slicelet_call.SliceletCall.TheVariants.{Start, Hear, Release, Resume}
use Rattle.slicelet.specs.Calls.{is_resume, reading_of, last_reading}
use Rattle.slicelet.specs.Accepted.{AreAccepted}
use Rattle.stretches.specs.declared.stretch.ServingLease.{ServingLease}
use Rattle.stretches.specs.declared.stretch.Stretch.{Stretch}
use Rattle.stretches.specs.declared.key_stretches.KeyStretches.{KeyStretches}
use Rattle.stretches.specs.Stretches.{processes, calls_through, calls_up_to, serving_at, serving_after, is_over, lease_in, lease_by, first_some, below, AreApart, EndBy, AreNext, BeginsAt, AreStretches, IsKept, IsNext}
use Rattle.stretches.specs.internals.Adding.{newest_or}
use Rattle.stretches.proofs.Adding.{AreSettled, settled}

-- THE LAST PROCESS

pub through_last : (calls : List SliceletCall) → calls_through (processes calls) calls ≡ calls
through_last [] = refl
through_last (c ∷ calls) = let none : nat_lt (processes (c ∷ calls)) (processes (c ∷ calls)) ≡ false = grind (arith, nat_tests) in rw none refl

or_true : (b : Bool) → (b || true) ≡ true
or_true true = refl
or_true false = refl

pub up_to_last : (calls : List SliceletCall) (at : ℕ) → last_reading calls ≤ at → calls_up_to at calls ≡ calls
up_to_last [] at l = refl
up_to_last (c ∷ calls) at l = let late : nat_le (reading_of c) at ≡ true = grind (arith, nat_tests) in rw (late, or_true (is_resume c)) refl

pub serving_now : (key : ℕ) (calls : List SliceletCall) (at : ℕ) → last_reading calls ≤ at → serving_at key calls (processes calls) at ≡ serving_after key calls at
serving_now key calls at l =
    let none : nat_lt (processes calls) (processes calls) ≡ false = grind (arith, nat_tests) in
    rw (none, through_last calls, up_to_last calls at l) refl

-- ONE MORE CALL

-- at no earlier reading were other calls accepted
pub record IsLater (before after : List SliceletCall) : Type 0 where
  pub same : processes after ≡ processes before
  pub last : last_reading before ≤ last_reading after
  pub earlier : (process at : ℕ) → is_over after process at ≡ true → calls_up_to at (calls_through process after) ≡ calls_up_to at (calls_through process before)

-- nor is anything served otherwise
serving_earlier : (key : ℕ) (before after : List SliceletCall) → IsLater before after → (process at : ℕ) → is_over after process at ≡ true
    → serving_at key after process at ≡ serving_at key before process at
serving_earlier key before after later process at over =
    ap (λ (n : ℕ). if nat_lt n process then None else serving_after key (calls_up_to at (calls_through process after)) at) later.same
    ∙ ap (λ (h : List SliceletCall). if nat_lt (processes before) process then None else serving_after key h at) (later.earlier process at over)

second_holds : (a b : Bool) (x y : SliceletError) (rest : List (Option SliceletError)) → first_of (when a x ∷ when b y ∷ rest) ≡ None → b ≡ false
second_holds true b x y rest e = absurd (cc)
second_holds false true x y rest e = absurd (cc)
second_holds false false x y rest e = refl

on_time : (a : Bool) (at last : ℕ) (x y : SliceletError) (rest : List (Option SliceletError)) → first_of (when a x ∷ when (nat_lt at last) y ∷ rest) ≡ None → last ≤ at
on_time a at last x y rest e = let late : nat_lt at last ≡ false = second_holds a (nat_lt at last) x y rest e in grind (arith, nat_tests)

not_back : (task : ℕ) (before : List SliceletCall) (c : SliceletCall) → AreAccepted task (c ∷ before) → is_resume c ≡ false → last_reading before ≤ reading_of c
not_back task before (Start life at) accepted reads = on_time _ at (last_reading before) _ _ _ accepted.0
not_back task before (Hear grant at) accepted reads = on_time _ at (last_reading before) _ _ _ accepted.0
not_back task before (Release kind at) accepted reads = on_time _ at (last_reading before) _ _ _ accepted.0
not_back task before (Resume life) accepted reads = absurd (cc)

module _ (before : List SliceletCall) (c : SliceletCall) (reads : is_resume c ≡ false) where
  same_count : processes (c ∷ before) ≡ processes before
  same_count = rw reads refl

  at_last : (at : ℕ) → at < reading_of c → calls_up_to at (calls_through (processes before) (c ∷ before)) ≡ calls_up_to at (calls_through (processes before) before)
  at_last at l =
      let none : nat_lt (processes before) (processes before) ≡ false = grind (arith, nat_tests) in
      let early : nat_le (reading_of c) at ≡ false = grind (arith, nat_tests) in
      rw (same_count, none, reads, early, through_last before) refl

  at_earlier : (process at : ℕ) → process < processes before → calls_through process (c ∷ before) ≡ calls_through process before
  at_earlier process at l = let later : nat_lt process (processes before) ≡ true = grind (arith, nat_tests) in rw (same_count, later) refl

  earlier_readings : (process at : ℕ) → is_over (c ∷ before) process at ≡ true → calls_up_to at (calls_through process (c ∷ before)) ≡ calls_up_to at (calls_through process before)
  earlier_readings process at over = by_test (nat_lt process (processes before)) refl
    where
      by_test : (b : Bool) → nat_lt process (processes before) ≡ b → calls_up_to at (calls_through process (c ∷ before)) ≡ calls_up_to at (calls_through process before)
      by_test true e = ap (calls_up_to at) (at_earlier process at (grind (arith, nat_tests)))
      by_test false e =
          let kept : (process == processes before && nat_lt at (reading_of c)) ≡ true = ap (λ (b : Bool). b || (process == processes before && nat_lt at (reading_of c))) (sym e)
          ∙ ap (λ (n : ℕ). nat_lt process n || (process == n && nat_lt at (reading_of c))) (sym same_count) ∙ over in
          let own : process ≡ processes before = grind (arith, nat_tests, kept) in
          let l : at < reading_of c = grind (arith, nat_tests, kept) in
          subst (λ (p : ℕ). calls_up_to at (calls_through p (c ∷ before)) ≡ calls_up_to at (calls_through p before)) (sym own) (at_last at l)

pub one_later : (task : ℕ) (before after : List SliceletCall) → AreAccepted task after → IsNext before after → IsLater before after
one_later task before after accepted (inl same) = subst (λ (calls : List SliceletCall). IsLater before calls) (sym same) (record { same = refl; last = omega arith; earlier = λ process at over. refl })
one_later task before after accepted (inr more) =
    subst (λ (calls : List SliceletCall). IsLater before calls) (sym more.1) (record {
      same = same_count before more.0 more.2;
      last = not_back task before more.0 (subst (λ (calls : List SliceletCall). AreAccepted task calls) more.1 accepted) more.2;
      earlier = earlier_readings before more.0 more.2;
    })

-- THE STRETCHES FROM THE LAST READING ON

tail_of : ℕ → ℕ → Option Stretch → Option Stretch → Option ServingLease
tail_of process at first second = first_some (lease_by process at second) (lease_by process at first)

module _ (process from : ℕ) where
  not_own : (start : ℕ) (s : Stretch) → BeginsAt process start s → (other at : ℕ) → (process == other) ≡ false → lease_by other at (Some s) ≡ None
  not_own start s b other at e = let none : (s.process == other) ≡ false = ap (λ (n : ℕ). n == other) b.0 ∙ e in rw none refl

  other_process : (first second : Option Stretch) → AreNext process from first second → (other at : ℕ) → (process == other) ≡ false → tail_of other at first second ≡ None
  unfolding tail_of
  other_process None None n other at e = refl
  other_process None (Some g) n other at e = absurd n
  other_process (Some f) None n other at e = not_own from f n other at e
  other_process (Some f) (Some g) n other at e = rw (not_own f.to g n.1 other at e, not_own from f n.0 other at e) refl

  and_false : (b c : Bool) → (b && (false && c)) ≡ false
  and_false true c = refl
  and_false false c = refl

  early : (start : ℕ) (s : Stretch) → BeginsAt process start s → (other at : ℕ) → at < start → lease_by other at (Some s) ≡ None
  early start s b other at l = let none : nat_le s.from at ≡ false = grind (arith, nat_tests, l, b.1) in rw (none, and_false (s.process == other) (nat_lt at s.to)) refl

  too_early : (first second : Option Stretch) → AreNext process from first second → (other at : ℕ) → at < from → tail_of other at first second ≡ None
  unfolding tail_of
  too_early None None n other at l = refl
  too_early None (Some g) n other at l = absurd n
  too_early (Some f) None n other at l = early from f n other at l
  too_early (Some f) (Some g) n other at l = rw (early f.to g n.1 other at (omega (arith, l, n.0.1, n.0.2)), early from f n.0 other at l) refl

some_or_none : (lease : Option ServingLease) (t : Bool) → first_some (if t then None else None) lease ≡ lease
some_or_none lease true = refl
some_or_none lease false = refl

only_first : (lease : Option ServingLease) → first_some lease None ≡ lease
only_first None = refl
only_first (Some l) = refl

-- BELOW A READING THAT IS NOT EARLIER

module _ (calls : List SliceletCall) (kept : KeyStretches) (k : IsKept calls kept) (now : ℕ) (l : last_reading calls ≤ now) where
  xs : List Stretch
  xs = reverse kept.over.items

  pub both_settled : AreSettled kept.process now kept.first kept.second (reverse kept.over.items) (newest_or (below now kept.second) (newest_or (below now kept.first) (reverse kept.over.items)))
  both_settled = settled kept.process (last_reading calls) now l (reverse kept.over.items) k.apart k.end kept.first kept.second k.next

  -- which readings the settled stretches have
  settles : ℕ → ℕ → Bool
  settles process at = nat_lt process (processes calls) || (process == processes calls && nat_lt at now)

  pub settled_lease : (ys : List Stretch) → AreSettled kept.process now kept.first kept.second (reverse kept.over.items) ys → (process at : ℕ)
      → lease_in process at ys ≡ (if nat_lt process (processes calls) || (process == processes calls && nat_lt at now) then serving_at kept.key calls process at else None)
  unfolding tail_of
  settled_lease ys st process at =
      st.lease process at
      ∙ ap (λ (o : Option ServingLease). first_some (if nat_lt at now then tail_of process at kept.first kept.second else None) o) (k.over process at)
      ∙ by_own (kept.process == process) refl
    where
      tests : (own : (kept.process == process) ≡ false) → (process == processes calls) ≡ false
      tests own = let p = k.process in grind (arith, nat_tests, own, p)

      by_own : (own : Bool) → (kept.process == process) ≡ own
          → first_some (if nat_lt at now then tail_of process at kept.first kept.second else None) (if is_over calls process at then serving_at kept.key calls process at else None)
          ≡ (if nat_lt process (processes calls) || (process == processes calls && nat_lt at now) then serving_at kept.key calls process at else None)
      by_own false e =
          rw (other_process kept.process (last_reading calls) kept.first kept.second k.next process at e, tests e)
          (some_or_none (if nat_lt process (processes calls) || false then serving_at kept.key calls process at else None) (nat_lt at now))
      by_own true e =
          let same : process ≡ processes calls = sym (eqb-true kept.process process e) ∙ k.process in
          let here : (process == processes calls) ≡ true = grind (arith, nat_tests, same) in
          let none : nat_lt process (processes calls) ≡ false = grind (arith, nat_tests, same) in
          rw (none, here) (by_now (nat_lt at now) refl (nat_lt at (last_reading calls)) refl)
        where
          by_now : (n : Bool) → nat_lt at now ≡ n → (e : Bool) → nat_lt at (last_reading calls) ≡ e
              → first_some (if n then tail_of process at kept.first kept.second else None) (if e then serving_at kept.key calls process at else None) ≡ (if n then serving_at kept.key calls process at else None)
          by_now true p true q = rw (too_early kept.process (last_reading calls) kept.first kept.second k.next process at (grind (arith, nat_tests))) refl
          by_now true p false q =
              let late : last_reading calls ≤ at = grind (arith, nat_tests) in
              let same_too : process ≡ processes calls = sym (eqb-true kept.process process e) ∙ k.process in
              only_first (tail_of process at kept.first kept.second)
              ∙ ap (λ (n : ℕ). tail_of n at kept.first kept.second) (sym (eqb-true kept.process process e))
              ∙ k.rest at late ∙ sym (serving_now kept.key calls at late)
              ∙ ap (λ (n : ℕ). serving_at kept.key calls n at) (sym same_too)
          by_now false p true q = absurd (let more : at < now = grind (arith, nat_tests, q, l) in let not : nat_lt at now ≡ true = grind (arith, nat_tests) in cc)
          by_now false p false q = refl

-- ALL OF THEM

module _ (calls : List SliceletCall) (kept : KeyStretches) (k : IsKept calls kept) where
  all : List Stretch
  all = newest_or kept.second (newest_or kept.first (reverse kept.over.items))

  end_of : Option Stretch → ℕ
  end_of None = 0
  end_of (Some s) = s.to

  limit : ℕ
  limit = last_reading calls + (end_of kept.first + end_of kept.second) + 1

  whole : (s : Stretch) → s.from < s.to → s.to ≤ limit → below limit (Some s) ≡ Some s
  whole s l m = let low : nat_lt s.from limit ≡ true = grind (arith, nat_tests, l, m) in let end : min s.to limit ≡ s.to = grind (arith, m) in rw (low, end) refl

  all_below : below limit kept.first ≡ kept.first × below limit kept.second ≡ kept.second
  unfolding limit end_of
  all_below = by_two kept.first kept.second refl refl k.next
    where
      by_two : (first second : Option Stretch) → kept.first ≡ first → kept.second ≡ second → AreNext kept.process (last_reading calls) first second
          → (below limit first ≡ first) × (below limit second ≡ second)
      by_two None None e f n = (refl, refl)
      by_two None (Some g) e f n = absurd n
      by_two (Some s) None e f n =
          let ends : end_of kept.first ≡ s.to = ap end_of e in
          (whole s n.2 (omega (arith, ends)), refl)
      by_two (Some s) (Some g) e f n =
          let ends : end_of kept.first ≡ s.to = ap end_of e in
          let other : end_of kept.second ≡ g.to = ap end_of f in
          (whole s n.0.2 (omega (arith, ends)), whole g n.1.2 (omega (arith, other)))

  later : last_reading calls ≤ limit
  unfolding limit
  later = omega arith

  all_settled : AreSettled kept.process limit kept.first kept.second (reverse kept.over.items) all
  unfolding all
  all_settled =
      let both = all_below in
      subst (λ (o : Option Stretch). AreSettled kept.process limit kept.first kept.second (reverse kept.over.items) (newest_or o (newest_or kept.first (reverse kept.over.items)))) both.1
      (subst (λ (o : Option Stretch). AreSettled kept.process limit kept.first kept.second (reverse kept.over.items) (newest_or (below limit kept.second) (newest_or o (reverse kept.over.items)))) both.0
      (both_settled calls kept k limit later))

  past : (process at : ℕ) (s : Stretch) → s.to ≤ at → lease_by process at (Some s) ≡ None
  past process at s l = let none : nat_lt at s.to ≡ false = grind (arith, nat_tests) in rw (none, neither (s.process == process) (nat_le s.from at)) refl
    where
      neither : (b c : Bool) → (b && (c && false)) ≡ false
      neither true true = refl
      neither true false = refl
      neither false c = refl

  both_past : (process at : ℕ) → limit ≤ at → tail_of process at kept.first kept.second ≡ None
  unfolding tail_of limit end_of
  both_past process at l = by_two kept.first kept.second refl refl
    where
      by_two : (first second : Option Stretch) → kept.first ≡ first → kept.second ≡ second → first_some (lease_by process at second) (lease_by process at first) ≡ None
      by_two None None e f = refl
      by_two None (Some g) e f = let other : end_of kept.second ≡ g.to = ap end_of f in rw (past process at g (omega (arith, other, l))) refl
      by_two (Some s) None e f = let ends : end_of kept.first ≡ s.to = ap end_of e in past process at s (omega (arith, ends, l))
      by_two (Some s) (Some g) e f =
          let ends : end_of kept.first ≡ s.to = ap end_of e in
          let other : end_of kept.second ≡ g.to = ap end_of f in
          rw (past process at g (omega (arith, other, l)), past process at s (omega (arith, ends, l))) refl

  all_lease : (process at : ℕ) → lease_in process at all ≡ serving_at kept.key calls process at
  unfolding tail_of
  all_lease process at = settled_lease calls kept k limit later all all_settled process at ∙ by_process (nat_lt process (processes calls)) refl
    where
      by_limit : (t : Bool) → nat_lt at limit ≡ t → process ≡ processes calls → (if t then serving_at kept.key calls process at else None) ≡ serving_at kept.key calls process at
      by_limit true e own = refl
      by_limit false e own =
          let far : limit ≤ at = grind (arith, nat_tests) in
          let late : last_reading calls ≤ at = (let l = later in omega (arith, l, far)) in
          sym (ap (λ (n : ℕ). serving_at kept.key calls n at) own ∙ serving_now kept.key calls at late ∙ sym (k.rest at late) ∙ both_past kept.process at far)

      by_own : (t : Bool) → (process == processes calls) ≡ t → nat_lt process (processes calls) ≡ false
          → (if t && nat_lt at limit then serving_at kept.key calls process at else None) ≡ serving_at kept.key calls process at
      by_own true e f = by_limit (nat_lt at limit) refl (eqb-true process (processes calls) e)
      by_own false e f = let more : nat_lt (processes calls) process ≡ true = grind (arith, nat_tests) in rw more refl

      by_process : (t : Bool) → nat_lt process (processes calls) ≡ t
          → (if t || (process == processes calls && nat_lt at limit) then serving_at kept.key calls process at else None) ≡ serving_at kept.key calls process at
      by_process true e = refl
      by_process false e = by_own (process == processes calls) refl e

  pub are_stretches : (items : List Stretch) → reverse items ≡ newest_or kept.second (newest_or kept.first (reverse kept.over.items)) → AreStretches kept.key calls items
  unfolding all
  are_stretches items e = record {
    serve = λ process at. ap (lease_in process at) e ∙ all_lease process at;
    apart = subst AreApart (sym e) all_settled.apart;
  }

  -- A NEW PROCESS

  earlier_end : (process now : ℕ) (ys : List Stretch) → EndBy process now ys → EndBy (process + 1) 0 ys
  earlier_end process now [] end = tt
  earlier_end process now (s ∷ ys) (inl before) = inl (omega (arith, before))
  earlier_end process now (s ∷ ys) (inr same) = inl (omega (arith, same.0))

  pub next_process : (life : ℕ) (new : KeyStretches) → new.key ≡ kept.key → new.process ≡ kept.process + 1
      → reverse new.over.items ≡ newest_or kept.second (newest_or kept.first (reverse kept.over.items)) → new.first ≡ None → new.second ≡ None → IsKept (Resume life ∷ calls) new
  unfolding all
  next_process life new key process over first second = record {
    process = process ∙ ap (λ (n : ℕ). n + 1) k.process;
    over = λ other at. ap (lease_in other at) over ∙ all_lease other at ∙ ap (λ (n : ℕ). serving_at n calls other at) (sym key) ∙ by_process other at (nat_lt (processes calls) other) refl;
    end = subst (EndBy new.process 0) (sym over) (subst (λ (n : ℕ). EndBy n 0 all) (sym process) (earlier_end kept.process limit all all_settled.end));
    apart = subst AreApart (sym over) all_settled.apart;
    rest = λ at l. rw (first, second) refl;
    next = subst (λ (o : Option Stretch). AreNext new.process 0 o new.second) (sym first) (subst (λ (o : Option Stretch). AreNext new.process 0 None o) (sym second) tt);
  }
    where
      by_process : (other at : ℕ) (t : Bool) → nat_lt (processes calls) other ≡ t
          → serving_at new.key calls other at ≡ (if is_over (Resume life ∷ calls) other at then serving_at new.key (Resume life ∷ calls) other at else None)
      by_process other at true e =
          let none : (nat_lt other (processes calls + 1) || (other == processes calls + 1 && nat_lt at 0)) ≡ false = grind (arith, nat_tests) in
          rw (e, none) refl
      by_process other at false e =
          let here : nat_lt other (processes calls + 1) ≡ true = grind (arith, nat_tests) in
          let not_above : nat_lt (processes calls + 1) other ≡ false = grind (arith, nat_tests) in
          rw (here, not_above, e) refl

-- AFTER ONE MORE CALL

pub kept_next : (before after : List SliceletCall) (kept new : KeyStretches) → IsKept before kept → IsLater before after
    → new.key ≡ kept.key → new.process ≡ kept.process
    → reverse new.over.items ≡ newest_or (below (last_reading after) kept.second) (newest_or (below (last_reading after) kept.first) (reverse kept.over.items))
    → ((at : ℕ) → last_reading after ≤ at → first_some (lease_by new.process at new.second) (lease_by new.process at new.first) ≡ serving_after new.key after at)
    → AreNext new.process (last_reading after) new.first new.second → IsKept after new
kept_next before after kept new k later key process over rest next =
    let now = last_reading after in
    let st = both_settled before kept k now later.last in
    let ys = newest_or (below now kept.second) (newest_or (below now kept.first) (reverse kept.over.items)) in
    record {
      process = process ∙ k.process ∙ sym later.same;
      over = λ other at. ap (lease_in other at) over ∙ settled_lease before kept k now later.last ys st other at
          ∙ ap (λ (n : ℕ). if nat_lt other n || (other == n && nat_lt at now) then serving_at kept.key before other at else None) (sym later.same)
          ∙ by_over other at (is_over after other at) refl ∙ ap (λ (n : ℕ). if is_over after other at then serving_at n after other at else None) (sym key);
      end = subst (EndBy new.process now) (sym over) (subst (λ (n : ℕ). EndBy n now ys) (sym process) st.end);
      apart = subst AreApart (sym over) st.apart;
      rest = rest;
      next = next;
    }
  where
    by_over : (other at : ℕ) (t : Bool) → is_over after other at ≡ t
        → (if t then serving_at kept.key before other at else None) ≡ (if t then serving_at kept.key after other at else None)
    by_over other at true e = sym (serving_earlier kept.key before after later other at e)
    by_over other at false e = refl
