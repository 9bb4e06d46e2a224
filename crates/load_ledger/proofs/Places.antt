-- The place of a key among slices whose starts rise.
use Rattle.std.proofs.Common.{◌≡◌, ℕ, zero, suc, ◌-◌, ◌<◌, ◌≤◌, inl, inr, Bool, true, false, List, [], ◌∷◌, length, get_or, refl, arith, leb}
use Rattle.std.specs.Prelude.{◌==◌, ◌&&◌, nat_lt, All, Some, None}
use Rattle.std.specs.List.Sorted.{IsPartitionPoint, IsNonDecreasingBy}
use Rattle.std.proofs.lemmas.Bool.Decides.{nat_tests}
use Rattle.std.proofs.lemmas.Bool.{cases_lt}
use Rattle.std.proofs.lemmas.List.{get_or_default}
use Rattle.assignment.specs.declared.slice.Slice.{Slice}
use Rattle.assignment.specs.Slices.{first_starts_at, is_rising, refusal_of}
use Rattle.assignment.specs.Owners.{slice_at}
use Rattle.assignment.proofs.Acceptance.{acceptance}
use Rattle.assignment.proofs.SliceOrder.{rising_rest, slice_at_is}
use Rattle.load_ledger.specs.Loads.{is_in}

first_below : (s u : Slice) (slices : List Slice) → is_rising (s ∷ u ∷ slices) ≡ true → s.start < u.start
first_below s u slices rising = by_test (nat_lt s.start u.start) refl rising
  where
    by_test : (b : Bool) → b ≡ nat_lt s.start u.start → (b && is_rising (u ∷ slices)) ≡ true → s.start < u.start
    by_test true e h = grind (arith, nat_tests)
    by_test false e h = absurd (cc)

-- each slice starts above the first
pub later_at : (s : Slice) (slices : List Slice) (k : ℕ) (d : Slice) → is_rising (s ∷ slices) ≡ true → k < length slices → s.start < (get_or slices k d).start
later_at s [] k d rising within = absurd (omega arith)
later_at s (u ∷ slices) zero d rising within = first_below s u slices rising
later_at s (u ∷ slices) (suc k) d rising within =
    let next = first_below s u slices rising in
    let later = later_at u slices k d (rising_rest s (u ∷ slices) rising) (omega arith) in
    omega arith

-- of two slices the later one starts above the other
pub rising_at : (slices : List Slice) (j k : ℕ) (d : Slice) → is_rising slices ≡ true → j < k → k < length slices → (get_or slices j d).start < (get_or slices k d).start
rising_at [] j k d rising later within = absurd (omega arith)
rising_at (s ∷ slices) j zero d rising later within = absurd (omega arith)
rising_at (s ∷ slices) zero (suc k) d rising later within = later_at s slices k d rising (omega arith)
rising_at (s ∷ slices) (suc j) (suc k) d rising later within = rising_at slices j k d (rising_rest s slices rising) (omega arith) (omega arith)

pub starts_rise : (slices : List Slice) → is_rising slices ≡ true → IsNonDecreasingBy (λ s. s.start) slices
starts_rise slices rising i j d before within = elim (cases_lt i j) [
  | inl below ↦ let l = rising_at slices i j d rising below within in omega arith
  | inr above ↦ let same : i ≡ j = omega arith in rw same (omega arith)
]

starts_at_zero : (slices : List Slice) (d : Slice) → first_starts_at 0 slices ≡ true → (get_or slices 0 d).start ≡ 0
starts_at_zero [] d h = absurd (cc)
starts_at_zero (s ∷ slices) d h = let e : (s.start == 0) ≡ true = h in grind (arith, nat_tests)

-- slices that make an assignment, parted where they start above a key
module _ (slices : List Slice) (key point : ℕ) (accepted : refusal_of slices ≡ None) (within : point ≤ length slices) (parts : IsPartitionPoint (λ (s : Slice). leb s.start key ≡ true) (λ (s : Slice). leb s.start key ≡ false) slices point) where
  origin : Slice
  origin = record { start = 0; owners = [] }

  rising : is_rising slices ≡ true
  rising = (acceptance slices accepted).rising

  not_above : (k : ℕ) (d : Slice) → k < point → (get_or slices k d).start ≤ key
  not_above k d l = let e : leb (get_or slices k d).start key ≡ true = parts.0 k d (omega arith) l in grind (arith, nat_tests)

  above : (k : ℕ) (d : Slice) → point ≤ k → k < length slices → key < (get_or slices k d).start
  above k d l n = let e : leb (get_or slices k d).start key ≡ false = parts.1 k d l n in grind (arith, nat_tests)

  pub some_before : 1 ≤ point
  some_before = elim (cases_lt 0 point) [
    | inl some ↦ some
    | inr none ↦
        let start = starts_at_zero slices origin (acceptance slices accepted).first in
        let over = above 0 origin (omega arith) (acceptance slices accepted).some in
        absurd (omega arith)
  ]

  greatest : (d : Slice) → All (λ other. other.start ≤ key → other.start ≤ (get_or slices (point - 1) d).start) slices
  greatest d k e l below = elim (cases_lt k (point - 1)) [
    | inl before ↦ let r = rising_at slices k (point - 1) e rising before (omega (arith, some_before)) in rw (get_or_default slices (point - 1) d e (omega (arith, some_before))) (omega arith)
    | inr after ↦ elim (cases_lt (point - 1) k) [
      | inl later ↦ let over = above k e (omega arith) l in absurd (omega arith)
      | inr same ↦ let is : k ≡ point - 1 = omega arith in rw (is, get_or_default slices (point - 1) d e (omega (arith, some_before))) (omega arith)
    ]
  ]

  pub slice_is : (d : Slice) → slice_at slices key ≡ Some (get_or slices (point - 1) d)
  slice_is d = slice_at_is slices (get_or slices (point - 1) d) key rising (record {
    listed = (point - 1, omega (arith, some_before), get_or_default slices (point - 1) (get_or slices (point - 1) d) d (omega (arith, some_before)));
    not_above = not_above (point - 1) d (omega (arith, some_before));
    greatest = greatest d;
  })

  starts_alone : (place : ℕ) (d : Slice) → place < length slices → ((get_or slices (point - 1) d).start == (get_or slices place d).start) ≡ (place == point - 1)
  starts_alone place d l = elim (cases_lt place (point - 1)) [
    | inl before ↦ let r = rising_at slices place (point - 1) d rising before (omega (arith, some_before)) in grind (arith, nat_tests)
    | inr after ↦ elim (cases_lt (point - 1) place) [
      | inl later ↦ let r = rising_at slices (point - 1) place d rising later l in grind (arith, nat_tests)
      | inr same ↦ let is : place ≡ point - 1 = omega arith in rw is (grind (arith, nat_tests))
    ]
  ]

  -- the key is in the slice before the point and in no other
  pub alone_in : (place : ℕ) (d : Slice) → place < length slices → is_in slices (get_or slices place d) key ≡ (place == point - 1)
  unfolding is_in
  alone_in place d l = rw (slice_is d) (starts_alone place d l)
