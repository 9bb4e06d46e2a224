-- A handle that no call broke is continuous.
use Rattle.std.proofs.Common.{◌≡◌, ◌∙◌, ℕ, zero, suc, ◌+◌, ◌-◌, ◌<◌, ◌≤◌, Bool, true, false, not, List, ◌∷◌, length, refl, sym, ap, subst, arith, length-append}
use Rattle.std.specs.Prelude.{◌==◌, ◌&&◌, ◌||◌, nat_lt, nat_le, Result, Ok, Err, if◌then◌else◌}
use Rattle.std.proofs.lemmas.Bool.Decides.{nat_tests}
use Rattle.slice_ranges.specs.declared.key.TheConstants.{KEYS}
use Rattle.grants.specs.declared.slicelet_call.SliceletCall.{SliceletCall}
use Rattle.grants.specs.declared.slicelet_error.Stranger.{Stranger}
use Rattle.key_handle.specs.declared.handle.KeyHandle.{KeyHandle}
use Rattle.slicelet.specs.Calls.{this_process}
use Rattle.slicelet.specs.Accepted.{StandsAfter}
use Rattle.slicelet.specs.Continuity.{is_strange, is_kept, checked_in, IsKeptSince, IsContinuous, IsChecked}
use Rattle.key_handle.specs.Handles.{is_up_to}
use Rattle.slicelet.specs.Rules.{covers_key}
use Rattle.slicelet.specs.States.{SliceletState, stamp_in, permits}
use Rattle.reasons.specs.Breaking.{taken_after, HasNoBreakingCall}
use Rattle.reasons.proofs.Breaking.{answer}

next_answer : (other to_come same past next_past up next_up may : Bool) → next_past ≡ false → answer other to_come same past up may ≡ Ok false
    → (answer other to_come same next_past next_up may ≡ Ok true → ⊥) → answer other to_come same next_past next_up may ≡ Ok false
next_answer true to_come same past next_past up next_up may n e kept = absurd (cc)
next_answer false true same past next_past up next_up may n e kept = absurd (cc)
next_answer false false false past next_past up next_up may n e kept = refl
next_answer false false true past true up next_up may n e kept = absurd (cc)
next_answer false false true past false up false may n e kept = refl
next_answer false false true past false up true false n e kept = refl
next_answer false false true past false up true true n e kept = absurd (kept refl)

abbrev strange_if : Bool → Bool → Result Bool Stranger
strange_if b kept = if b then Err (record {}) else Ok kept

module _ (s : SliceletState) (handle : KeyHandle) (at : ℕ) (unbroken : HasNoBreakingCall s handle at) where
  -- a call that does not take the key away
  next_broken : (p : ℕ) → handle.position ≤ p → p < s.count → checked_in s (taken_after p handle) at ≡ Ok false → checked_in s (taken_after (p + 1) handle) at ≡ Ok false
  next_broken p since l e =
      next_answer (not (handle.task == s.task) || nat_le handle.life s.resumed) (nat_lt s.life handle.life) (handle.life == s.life) (nat_lt s.count p) (nat_lt s.count (p + 1))
      (is_up_to p (stamp_in s handle.key)) (is_up_to (p + 1) (stamp_in s handle.key)) (permits s handle.key at)
      (let t : nat_lt s.count (p + 1) ≡ false = grind (arith, nat_tests) in t) e
      (λ kept. unbroken (p + 1) (record { since = omega (arith, since); before = p; just_before = refl; broken_before = e; continuous_after = kept }))

  later_broken : (k p q : ℕ) → p + k ≡ q → q ≤ s.count → handle.position ≤ p → checked_in s (taken_after p handle) at ≡ Ok false → checked_in s (taken_after q handle) at ≡ Ok false
  later_broken zero p q is l since e = subst (λ (n : ℕ). checked_in s (taken_after n handle) at ≡ Ok false) (let f : p ≡ q = omega (arith, is) in f) e
  later_broken (suc k) p q is l since e =
      later_broken k (p + 1) q (omega (arith, is)) l (omega (arith, since)) (next_broken p since (omega (arith, is, l)) e)

  -- the key would be lost by a handle that is taken now
  pub broken_now : handle.position ≤ s.count → checked_in s handle at ≡ Ok false → checked_in s (taken_after s.count handle) at ≡ Ok false
  broken_now l e = later_broken (s.count - handle.position) handle.position s.count (omega (arith, l)) (omega arith) (omega arith) e

-- a handle that the slicelet can have given was taken after no more calls than there were
given_within : (s : SliceletState) (handle : KeyHandle) → is_strange s handle ≡ false → handle.life ≡ s.life → handle.position ≤ s.count
given_within s handle given lives =
    let same : (handle.life == s.life) ≡ true = grind (arith, nat_tests) in
    let t : nat_lt s.count handle.position ≡ false = by_tests (not (handle.task == s.task) || nat_le handle.life s.resumed) (nat_lt s.life handle.life) (handle.life == s.life) (nat_lt s.count handle.position) same given in
    grind (arith, nat_tests)
  where
    by_tests : (a b c d : Bool) → c ≡ true → (a || b || (c && d)) ≡ false → d ≡ false
    by_tests true b c d e f = absurd (cc)
    by_tests false true c d e f = absurd (cc)
    by_tests false false true d e f = f
    by_tests false false false d e f = absurd (cc)

module _ (calls : List SliceletCall) (s : SliceletState) (handle : KeyHandle) (at : ℕ) (stands : StandsAfter calls s) (lives : handle.life ≡ s.life) (permitted : permits s handle.key at ≡ true) where
  -- there is no call after those that there were
  none_since : IsKeptSince s.count (covers_key handle.key) (this_process calls)
  none_since later before c e l =
      let many : s.count ≡ length (this_process calls) = ap (λ (x : SliceletState). x.count) stands.state in
      let parts : length (this_process calls) ≡ length later + length (c ∷ before) = ap length e ∙ length-append later (c ∷ before) in
      absurd (let f : length (c ∷ before) ≡ length before + 1 = omega arith in omega (arith, many, parts, l))

  continuous_now : IsContinuous (covers_key handle.key) calls (taken_after s.count handle) at
  continuous_now = record {
    life = lives ∙ ap (λ (x : SliceletState). x.life) stands.state;
    kept = none_since;
    now = sym (ap (λ (x : SliceletState). permits x handle.key at) stands.state) ∙ permitted;
  }

  module _ (checks : (h : KeyHandle) → h.key < KEYS → IsChecked s.task calls h at (checked_in s h at)) (inside : handle.key < KEYS) where
    pub unbroken_kept : HasNoBreakingCall s handle at → checked_in s handle at ≡ Ok false → ⊥
    unbroken_kept unbroken e =
        let given = not_strange (is_strange s handle) (is_kept s handle at) e in
        let now = broken_now s handle at unbroken (given_within s handle given lives) e in
        (asked (taken_after s.count handle) (Ok false) inside now).1 continuous_now
      where
        not_strange : (b kept : Bool) → strange_if b kept ≡ Ok false → b ≡ false
        not_strange true kept e = absurd (cc)
        not_strange false kept e = refl

        asked : (h : KeyHandle) (r : Result Bool Stranger) → h.key < KEYS → checked_in s h at ≡ r → IsChecked s.task calls h at r
        asked h r l e = subst (λ (x : Result Bool Stranger). IsChecked s.task calls h at x) e (checks h l)
