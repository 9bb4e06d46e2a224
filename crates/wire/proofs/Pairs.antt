-- The pairs of a set are the set again.
use Rattle.std.proofs.Common.{◌≡◌, ℕ, ◌+◌, ◌^◌, ◌<◌, ◌≤◌, false, List, [], ◌∷◌, None, Ok, refl, sym, ◌∙◌, inl, inr, arith}
use Rattle.std.specs.List.{AllByRecursion}
use Rattle.std.proofs.lemmas.Bool.{lt-ltb, le-ltb, le-leb, lt-leb, cases_lt}
use Rattle.slice_ranges.specs.declared.key.TheConstants.{KEYS}
use Rattle.slice_ranges.specs.Sets.{pairs_cover, has, IsRanges, keys_where, refusal_from, refusal_of, Rises}
use Rattle.slice_ranges.proofs.Boundaries.{inside_below, rises_bounds, rises_starts}
use Rattle.slice_ranges.proofs.KeysWhere.{is_where}
use Rattle.serde_json.specs.Data.{Data}
use Rattle.program_io.specs.Members.{list_of}
use Rattle.wire.specs.declared.numerals.Numerals.{Numerals}
use Rattle.wire.specs.declared.numerals.Numerals.TheVariants.{Quoted}
use Rattle.wire.specs.Numerals.{two_numerals_of}
use Rattle.wire.specs.Ranges.{pair_data, pairs_of, ranges_data, ranges_of, set_of}
use Rattle.wire.proofs.Digits.{digits_read}
use Rattle.wire.proofs.Lists.{list_read}

-- both numbers have 64 bits
abbrev IsSmall : ℕ × ℕ → Type 0
IsSmall pair = (pair.0 < 2 ^ 64) × (pair.1 < 2 ^ 64)

-- the pairs of boundaries that rise are not refused
not_refused : (end low : ℕ) (bs : List ℕ) → end ≤ low → Rises low bs (KEYS + 1) → refusal_from end (pairs_of bs) ≡ None
not_refused end low [] l r = refl
not_refused end low (s ∷ []) l r = refl
not_refused end low (s ∷ e ∷ rest) l r =
    let bound : e + 1 ≤ KEYS + 1 = rises_bounds (e + 1) rest (KEYS + 1) r.1.1 in
    rw (le-ltb s end (omega (arith, r.0)), lt-leb e s (omega (arith, r.1.0)), le-ltb KEYS e (omega (arith, bound)))
    (not_refused e (e + 1) rest (omega arith) r.1.1)

-- the pairs of boundaries cover the keys of the set
covers : (low : ℕ) (bs : List ℕ) (key : ℕ) → Rises low bs (KEYS + 1) → has bs KEYS ≡ false → pairs_cover (pairs_of bs) key ≡ has bs key
covers low [] key r even = refl
covers low (s ∷ []) key r even =
    let bound : s + 1 ≤ KEYS + 1 = r.1 in
    let odd = rw (le-ltb KEYS s (omega (arith, bound))) at even in
    absurd (cc)
covers low (s ∷ e ∷ rest) key r even =
    let bound : e + 1 ≤ KEYS + 1 = rises_bounds (e + 1) rest (KEYS + 1) r.1.1 in
    let later : has rest KEYS ≡ false = rw (le-ltb KEYS s (omega (arith, bound, r.1.0)), le-ltb KEYS e (omega (arith, bound))) at even in
    let same : pairs_cover (pairs_of rest) key ≡ has rest key = covers (e + 1) rest key r.1.1 later in
    elim (cases_lt key s) [
      | inl below ↦ (rw (lt-leb s key below, lt-ltb key s below) (same ∙ inside_below false rest (e + 1) key (rises_starts (e + 1) rest (KEYS + 1) r.1.1) (omega (arith, r.1.0))))
      | inr above ↦ elim (cases_lt key e) [
        | inl inside ↦ (rw (le-leb s key above, le-ltb key s above, lt-ltb key e inside) refl)
        | inr past ↦ (rw (le-leb s key above, le-ltb key s above, le-ltb key e past) same)
      ]
    ]

pub pairs_of_set : (bs : List ℕ) → IsRanges bs → set_of (pairs_of bs) (refusal_of (pairs_of bs)) ≡ Ok bs
pairs_of_set bs ranges =
    let same : bs ≡ keys_where (pairs_cover (pairs_of bs)) = is_where (pairs_cover (pairs_of bs)) bs ranges (λ key _. sym (covers 0 bs key ranges.rises ranges.ends)) in
    rw (not_refused 0 0 bs (omega arith) ranges.rises, ← same) refl

-- boundaries are numbers of 64 bits
pairs_small : (low : ℕ) (bs : List ℕ) → Rises low bs (KEYS + 1) → AllByRecursion IsSmall (pairs_of bs)
pairs_small low [] r = tt
pairs_small low (s ∷ []) r = tt
pairs_small low (s ∷ e ∷ rest) r =
    let bound : e + 1 ≤ KEYS + 1 = rises_bounds (e + 1) rest (KEYS + 1) r.1.1 in
    ((omega (arith, bound, r.1.0), omega (arith, bound)), pairs_small (e + 1) rest r.1.1)

pair_read : (pair : ℕ × ℕ) → IsSmall pair → two_numerals_of Quoted (pair_data Quoted pair) ≡ Ok pair
unfolding two_numerals_of
pair_read pair small = rw (digits_read pair.0 small.0, digits_read pair.1 small.1) refl

pub ranges_read : (bs : List ℕ) → IsRanges bs → ranges_of Quoted (ranges_data Quoted bs) ≡ Ok bs
unfolding ranges_of
ranges_read bs ranges = rw (list_read (two_numerals_of Quoted) (pair_data Quoted) IsSmall pair_read (pairs_of bs) (pairs_small 0 bs ranges.rises)) (pairs_of_set bs ranges)

-- a set that was made of the pairs is the set of their keys
pub ranges_are : (numerals : Numerals) (d : Data) (pairs : List (ℕ × ℕ)) (shown : List (ℕ × ℕ)) (bs : List ℕ) → list_of (two_numerals_of numerals) d ≡ Ok pairs → shown ≡ pairs
    → refusal_of shown ≡ None → IsRanges bs → ((key : ℕ) → has bs key ≡ pairs_cover shown key) → ranges_of numerals d ≡ Ok bs
unfolding ranges_of
ranges_are numerals d pairs shown bs read same accepted ranges keys =
    let is : bs ≡ keys_where (pairs_cover shown) = is_where (pairs_cover shown) bs ranges (λ key _. keys key) in
    rw (read, ← same, accepted, ← is) refl
