-- Membership by the number of boundaries that are not above a key.
use Rattle.std.proofs.Common.{◌≡◌, ℕ, zero, suc, ◌+◌, ◌%◌, ◌<◌, ◌≤◌, Bool, true, false, not, List, [], ◌∷◌, length, get_or, refl, sym, ap, ◌∙◌, inl, inr, arith, eqb, leb}
use Rattle.std.proofs.lemmas.Bool.{lt-ltb, le-ltb, leb-true, leb-false, cases_eq, eq-eqb, ne_eqb}
use Rattle.std.proofs.lemmas.List.Sorted.{IsNonDecreasingBy-from_default}
use Rattle.std.specs.List.Sorted.{IsPartitionPoint, IsNonDecreasingBy}
use Rattle.slice_ranges.specs.declared.key.TheConstants.{KEYS}
use Rattle.slice_ranges.specs.Sets.{inside_after, has, Rises, IsRanges}

-- the membership once so many boundaries are passed
abbrev turned : Bool → ℕ → Bool
turned inside zero = inside
turned inside (suc n) = turned (not inside) n

twice : (inside : Bool) → not (not inside) ≡ inside
twice true = refl
twice false = refl

turned_even : (n : ℕ) (inside : Bool) → n % 2 ≡ 0 → turned inside n ≡ inside
turned_even zero inside e = refl
turned_even (suc zero) inside e = absurd (omega arith)
turned_even (suc (suc n)) inside e = turned_even n (not (not inside)) (omega arith) ∙ twice inside

turned_odd : (n : ℕ) (inside : Bool) → n % 2 ≡ 1 → turned inside n ≡ not inside
turned_odd zero inside e = absurd (omega arith)
turned_odd (suc zero) inside e = refl
turned_odd (suc (suc n)) inside e = turned_odd n (not (not inside)) (omega arith) ∙ ap not (twice inside)

parity : (n : ℕ) → eqb (n % 2) 1 ≡ turned false n
parity n = elim (cases_eq (n % 2) 1) [
  | inl e ↦ rw (eq-eqb (n % 2) 1 e) (sym (turned_odd n false e))
  | inr d ↦ rw (ne_eqb (n % 2) 1 d) (sym (turned_even n false (omega arith)))
]

at_place : (inside : Bool) (low : ℕ) (bs : List ℕ) (high i k : ℕ) → Rises low bs high → i ≤ length bs
    → ((j : ℕ) → j < i → get_or bs j 0 ≤ k) → ((j : ℕ) → i ≤ j → j < length bs → k < get_or bs j 0) → inside_after inside bs k ≡ turned inside i
at_place inside low [] high zero k r l below above = refl
at_place inside low [] high (suc i) k r l below above = absurd (omega arith)
at_place inside low (b ∷ bs) high zero k r l below above = let h : k < b = above 0 (omega arith) (omega arith) in rw (lt-ltb k b h)
at_place inside low (b ∷ bs) high (suc i) k r l below above =
    let h : b ≤ k = below 0 (omega arith) in
    rw (le-ltb k b h) (at_place (not inside) (b + 1) bs high i k r.1 (omega arith) (λ j g. below (suc j) (omega arith)) (λ j g q. above (suc j) (omega arith) (omega arith)))

low_below : (low : ℕ) (bs : List ℕ) (high i : ℕ) → Rises low bs high → i < length bs → low ≤ get_or bs i 0
low_below low [] high i r l = absurd (omega arith)
low_below low (b ∷ bs) high zero r l = r.0
low_below low (b ∷ bs) high (suc i) r l = let h : b + 1 ≤ get_or bs i 0 = low_below (b + 1) bs high i r.1 (omega arith) in omega (arith, r.0, h)

rises_places : (low : ℕ) (bs : List ℕ) (high i j : ℕ) → Rises low bs high → i ≤ j → j < length bs → get_or bs i 0 ≤ get_or bs j 0
rises_places low [] high i j r l g = absurd (omega arith)
rises_places low (b ∷ bs) high zero zero r l g = omega arith
rises_places low (b ∷ bs) high (suc i) zero r l g = absurd (omega arith)
rises_places low (b ∷ bs) high zero (suc j) r l g = let h : b + 1 ≤ get_or bs j 0 = low_below (b + 1) bs high j r.1 (omega arith) in omega (arith, h)
rises_places low (b ∷ bs) high (suc i) (suc j) r l g = rises_places (b + 1) bs high i j r.1 (omega arith) (omega arith)

pub rises_ordered : (bs : List ℕ) (high : ℕ) → Rises 0 bs high → IsNonDecreasingBy (λ b. b) bs
rises_ordered bs high r = IsNonDecreasingBy-from_default (λ b. b) bs 0 (λ i j l g. rises_places 0 bs high i j r l g)

-- a key is in the set where an odd number of boundaries are not above it
pub found : (bs : List ℕ) (key i : ℕ) → IsRanges bs → i ≤ length bs → IsPartitionPoint (λ b. leb b key ≡ true) (λ b. leb b key ≡ false) bs i → eqb (i % 2) 1 ≡ has bs key
found bs key i r l point =
    parity i ∙ sym (at_place false 0 bs (KEYS + 1) i key r.rises l (λ j g. leb-true _ _ (point.0 j 0 (omega arith) g)) (λ j g q. leb-false _ _ (point.1 j 0 g q)))
