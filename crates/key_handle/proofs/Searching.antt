-- The stamp of a key, by the number of levels that are not above it.
use Rattle.std.proofs.Common.{◌≡◌, ℕ, zero, suc, ◌+◌, ◌-◌, ◌<◌, ◌≤◌, true, false, [], ◌∷◌, length, get_or, Option, None, refl, sym, ◌∙◌, subst, arith, leb}
use Rattle.std.proofs.lemmas.Bool.{leb-true, leb-false, lt-ltb, le-ltb}
use Rattle.std.proofs.lemmas.List.Sorted.{IsNonDecreasingBy-from_default}
use Rattle.std.specs.List.Sorted.{IsPartitionPoint, IsNonDecreasingBy}
use Rattle.slice_ranges.specs.declared.key.TheConstants.{KEYS}
use Rattle.slice_ranges.specs.Levels.{Levels, value_after, LevelsRise}
use Rattle.key_handle.specs.Stamps.{Stamps, since, IsStamps}

-- the value of the last of so many levels
abbrev value_at_place : {V : Type 0} → V → Levels V → ℕ → V
value_at_place value levels zero = value
value_at_place value [] (suc i) = value
value_at_place value (s ∷ levels) (suc i) = value_at_place s.1 levels i

placed : {V : Type 0} (value : V) (d : ℕ × V) (low : ℕ) (levels : Levels V) (high i k : ℕ) → LevelsRise low levels high → i ≤ length levels
    → ((j : ℕ) → j < i → (get_or levels j d).0 ≤ k) → ((j : ℕ) → i ≤ j → j < length levels → k < (get_or levels j d).0) → value_after value levels k ≡ value_at_place value levels i
placed value d low [] high zero k r l below above = refl
placed value d low [] high (suc i) k r l below above = absurd (omega arith)
placed value d low (s ∷ levels) high zero k r l below above = let h : k < s.0 = above 0 (omega arith) (omega arith) in rw (lt-ltb k s.0 h)
placed value d low (s ∷ levels) high (suc i) k r l below above =
    let h : s.0 ≤ k = below 0 (omega arith) in
    rw (le-ltb k s.0 h) (placed s.1 d (s.0 + 1) levels high i k r.1 (omega arith) (λ j g. below (suc j) (omega arith)) (λ j g q. above (suc j) (omega arith) (omega arith)))

at_place_is : {V : Type 0} (value : V) (d : ℕ × V) (levels : Levels V) (i : ℕ) → i < length levels → value_at_place value levels (suc i) ≡ (get_or levels i d).1
at_place_is value d [] i l = absurd (omega arith)
at_place_is value d (s ∷ levels) zero l = refl
at_place_is value d (s ∷ levels) (suc i) l = at_place_is s.1 d levels i (omega arith)

low_below : {V : Type 0} (d : ℕ × V) (low : ℕ) (levels : Levels V) (high i : ℕ) → LevelsRise low levels high → i < length levels → low ≤ (get_or levels i d).0
low_below d low [] high i r l = absurd (omega arith)
low_below d low (s ∷ levels) high zero r l = r.0
low_below d low (s ∷ levels) high (suc i) r l = let h : s.0 + 1 ≤ (get_or levels i d).0 = low_below d (s.0 + 1) levels high i r.1 (omega arith) in omega (arith, r.0, h)

levels_ordered : {V : Type 0} (d : ℕ × V) (low : ℕ) (levels : Levels V) (high i j : ℕ) → LevelsRise low levels high → i ≤ j → j < length levels → (get_or levels i d).0 ≤ (get_or levels j d).0
levels_ordered d low [] high i j r l g = absurd (omega arith)
levels_ordered d low (s ∷ levels) high zero zero r l g = omega arith
levels_ordered d low (s ∷ levels) high (suc i) zero r l g = absurd (omega arith)
levels_ordered d low (s ∷ levels) high zero (suc j) r l g = let h : s.0 + 1 ≤ (get_or levels j d).0 = low_below d (s.0 + 1) levels high j r.1 (omega arith) in omega (arith, h)
levels_ordered d low (s ∷ levels) high (suc i) (suc j) r l g = levels_ordered d (s.0 + 1) levels high i j r.1 (omega arith) (omega arith)

pub stamps_ordered : (stamps : Stamps) → IsStamps stamps → IsNonDecreasingBy (λ s. s.0) stamps
stamps_ordered stamps r = IsNonDecreasingBy-from_default (λ s. s.0) stamps (0, None) (λ i j l g. levels_ordered (0, None) 0 stamps (KEYS + 1) i j r l g)

module _ (stamps : Stamps) (key i : ℕ) (r : IsStamps stamps) (l : i ≤ length stamps) (point : IsPartitionPoint (λ s. leb s.0 key ≡ true) (λ s. leb s.0 key ≡ false) stamps i) where
  at_place : since stamps key ≡ value_at_place None stamps i
  at_place = placed None (0, None) 0 stamps (KEYS + 1) i key r l (λ j g. leb-true _ _ (point.0 j (0, None) (omega arith) g)) (λ j g q. leb-false _ _ (point.1 j (0, None) g q))

  pub found_none : i ≡ 0 → None ≡ since stamps key
  found_none e = sym (at_place ∙ (rw e refl))

  pub found_level : (d : ℕ × Option ℕ) → (i ≡ 0 → ⊥) → (get_or stamps (i - 1) d).1 ≡ since stamps key
  found_level d n = sym (at_place ∙ subst (λ x. value_at_place None stamps x ≡ (get_or stamps (i - 1) d).1) {x = suc (i - 1)} (omega arith) (at_place_is None d stamps (i - 1) (omega arith)))
