-- What joining ranges keeps.
use Rattle.std.proofs.Common.{◌≡◌, ℕ, ◌+◌, ◌<◌, ◌≤◌, Bool, true, false, List, [], ◌∷◌, ◌++◌, None, refl, sym, ◌∙◌, inl, inr, ◌⊎◌, arith}
use Rattle.std.specs.Prelude.{nat_lt, nat_le}
use Rattle.std.proofs.lemmas.Bool.{lt-ltb, le-ltb, le-leb, lt-leb, cases_lt, ltb-false, leb-false}
use Rattle.slice_ranges.specs.declared.key.TheConstants.{KEYS}
use Rattle.slice_ranges.specs.declared.error.RangesError.TheVariants.{Unsorted, Empty, PastEnd}
use Rattle.slice_ranges.specs.Sets.{has, IsRanges, pairs_cover, or_else, refusal_from}
use Rattle.slice_ranges.specs.internals.Turns.{IsTurned}
use Rattle.slice_ranges.proofs.Boundaries.{rises_below}
use Rattle.machines.specs.Refusals.{when, first_of}
use Rattle.slice_ranges.proofs.Writing.{IsMade, writing_turn}

-- a range without a fault
pub record IsGood (end start stop : ℕ) (ranges : List (ℕ × ℕ)) : Type 0 where
  pub order : end ≤ start
  pub has_keys : start < stop
  pub within : stop ≤ KEYS
  pub rest : refusal_from stop ranges ≡ None

pub good_range : (end start stop : ℕ) (ranges : List (ℕ × ℕ)) → refusal_from end ((start, stop) ∷ ranges) ≡ None → IsGood end start stop ranges
good_range end start stop ranges e = tests (nat_lt start end) (nat_le stop start) (nat_lt KEYS stop) refl refl refl e
  where
    tests : (a b c : Bool) → nat_lt start end ≡ a → nat_le stop start ≡ b → nat_lt KEYS stop ≡ c → or_else (first_of (when a Unsorted ∷ when b Empty ∷ when c PastEnd ∷ [])) (refusal_from stop ranges) ≡ None → IsGood end start stop ranges
    tests true b c p q r e = absurd (cc)
    tests false true c p q r e = absurd (cc)
    tests false false true p q r e = absurd (cc)
    tests false false false p q r e = record { order = ltb-false start end p; has_keys = leb-false stop start q; within = ltb-false KEYS stop r; rest = e }

-- no key below its end is in what follows
covered_below : (end : ℕ) (ranges : List (ℕ × ℕ)) (k : ℕ) → refusal_from end ranges ≡ None → k < end → pairs_cover ranges k ≡ false
covered_below end [] k e l = refl
covered_below end ((start, stop) ∷ ranges) k e l =
    let g = good_range end start stop ranges e in
    rw (lt-leb start k (omega (arith, g.order)), covered_below stop ranges k g.rest (omega (arith, g.order, g.has_keys))) refl

writing_until : (out : List ℕ) (inside : Bool) (p m : ℕ) (want : ℕ → Bool) → IsMade out inside p want → p ≤ m → ((k : ℕ) → p ≤ k → k < m → want k ≡ inside) → IsMade out inside m want
writing_until out inside p m want writing l between = record {
  before = λ k g. elim (cases_lt k p) [ inl below ↦ writing.before k below | inr above ↦ writing.after k above ∙ sym (between k above g) ];
  after = λ k g. writing.after k (omega arith);
  rises = rises_below 0 out p m writing.rises l;
}

-- the ranges before the rest are joined
pub record IsJoined (all rest : List (ℕ × ℕ)) (out : List ℕ) (inside : Bool) (end : ℕ) : Type 0 where
  pub writing : IsMade out inside end (pairs_cover all)
  pub same : (k : ℕ) → end ≤ k → pairs_cover all k ≡ pairs_cover rest k
  pub no_refusal : refusal_from end rest ≡ None
  pub within : end ≤ KEYS

module _ (all : List (ℕ × ℕ)) (start stop : ℕ) (rest : List (ℕ × ℕ)) (out : List ℕ) (end : ℕ) (no_refusal : refusal_from end ((start, stop) ∷ rest) ≡ None) (same : (k : ℕ) → end ≤ k → pairs_cover all k ≡ pairs_cover ((start, stop) ∷ rest) k) where
  g : IsGood end start stop rest
  g = good_range end start stop rest no_refusal

  gap : (k : ℕ) → end ≤ k → k < start → pairs_cover all k ≡ false
  gap k l h = same k l ∙ (rw (lt-leb start k h, covered_below stop rest k g.rest (omega (arith, g.has_keys))) refl)

  range : (k : ℕ) → start ≤ k → k < stop → pairs_cover all k ≡ true
  range k l h = same k (omega (arith, g.order)) ∙ (rw (le-leb start k l, lt-ltb k stop h) refl)

  beyond : (k : ℕ) → stop ≤ k → pairs_cover all k ≡ pairs_cover rest k
  beyond k l = same k (omega (arith, g.order, g.has_keys)) ∙ (rw (le-leb start k (omega (arith, g.has_keys)), le-ltb k stop l) refl)

  end_is : (new : List ℕ) (p : ℕ) → IsMade new true p (pairs_cover all) → start ≤ p → p ≤ stop → IsJoined all rest new true stop
  end_is new p writing l h = record { writing = writing_until new true p stop (pairs_cover all) writing h (λ k a b. range k (omega arith) b); same = beyond; no_refusal = g.rest; within = g.within }

  from_start : (p : ℕ) (old : List ℕ) → IsMade old false p (pairs_cover all) → end ≤ p → p ≤ start → IsJoined all rest (old ++ start ∷ []) true stop
  from_start p old writing l h = end_is (old ++ start ∷ []) (start + 1) (writing_turn old false p start (pairs_cover all) writing h (λ k a b. gap k (omega arith) b) (range start (omega arith) g.has_keys)) (omega arith) (omega (arith, g.has_keys))

  step : (inside : Bool) (new : List ℕ) → IsMade out inside end (pairs_cover all) → IsTurned inside end start out new → IsJoined all rest new true stop
  step false new writing e = rw e (from_start end out writing (omega arith) g.order)
  step true new writing (inl e) = rw e.1 (end_is out end writing (omega (arith, e.0)) (omega (arith, g.order, g.has_keys)))
  step true new writing (inr e) =
      let l : end < start = omega (arith, e.0, g.order) in
      rw e.1 (from_start (end + 1) (out ++ end ∷ []) (writing_turn out true end end (pairs_cover all) writing (omega arith) (λ k a b. absurd (omega arith)) (gap end (omega arith) l)) (omega arith) (omega arith))

pub joining_step : (all : List (ℕ × ℕ)) (r : ℕ × ℕ) (here rest : List (ℕ × ℕ)) (out new : List ℕ) (inside : Bool) (end : ℕ) → IsJoined all here out inside end → here ≡ r ∷ rest → IsTurned inside end r.0 out new → IsJoined all rest new true r.1
joining_step all r here rest out new inside end j e t =
    let j' : IsJoined all (r ∷ rest) out inside end = rw e at j in
    step all r.0 r.1 rest out end j'.no_refusal j'.same inside new j'.writing t

pub joining_end : (all here : List (ℕ × ℕ)) (out : List ℕ) (inside : Bool) (end : ℕ) (new : List ℕ) → IsJoined all here out inside end → here ≡ [] → ((inside ≡ false) × (new ≡ out)) ⊎ ((inside ≡ true) × (new ≡ out ++ end ∷ [])) → IsRanges new × ((k : ℕ) → has new k ≡ pairs_cover all k)
joining_end all here out inside end new j h e = at_end e
  where
    none : (k : ℕ) → end ≤ k → pairs_cover all k ≡ false
    none k l = j.same k l ∙ (rw h refl)

    whole : (p : ℕ) (bs : List ℕ) → IsMade bs false p (pairs_cover all) → end ≤ p → p ≤ KEYS + 1 → IsRanges bs × ((k : ℕ) → has bs k ≡ pairs_cover all k)
    whole p bs writing l b =
        let keys : (k : ℕ) → has bs k ≡ pairs_cover all k = λ k. elim (cases_lt k p) [ inl below ↦ writing.before k below | inr above ↦ writing.after k above ∙ sym (none k (omega arith)) ] in
        (record { rises = rises_below 0 bs p (KEYS + 1) writing.rises b; ends = keys KEYS ∙ none KEYS j.within }, keys)

    at_end : ((inside ≡ false) × (new ≡ out)) ⊎ ((inside ≡ true) × (new ≡ out ++ end ∷ [])) → IsRanges new × ((k : ℕ) → has new k ≡ pairs_cover all k)
    at_end (inl c) = rw c.1 (whole end out (rw c.0 at j.writing) (omega arith) (omega (arith, j.within)))
    at_end (inr c) = rw c.1 (whole (end + 1) (out ++ end ∷ []) (writing_turn out true end end (pairs_cover all) (rw c.0 at j.writing) (omega arith) (λ k a b. absurd (omega arith)) (none end (omega arith))) (omega arith) (omega (arith, j.within)))
