-- A set of slice keys as its boundaries: the keys where membership turns, in rising order.
use Rattle.std.specs.Prelude.{◌≡◌, ℕ, zero, suc, ◌+◌, ◌≤◌, Bool, true, false, not, ◌&&◌, List, [], ◌∷◌, if◌then◌else◌, nat_lt, nat_le, Option, Some, None}
use Rattle.std.specs.List.{list_any}
use Rattle.slice_ranges.specs.declared.key.TheConstants.{KEYS}
use Rattle.slice_ranges.specs.declared.error.RangesError.{RangesError}
use Rattle.slice_ranges.specs.declared.error.RangesError.TheVariants.{Unsorted, Empty, PastEnd}
use Rattle.machines.specs.Refusals.{when, first_of}

-- membership of a key, where `inside` holds below the first boundary
abbrev pub inside_after : Bool → List ℕ → ℕ → Bool
inside_after inside [] key = inside
inside_after inside (b ∷ bs) key = if nat_lt key b then inside else inside_after (not inside) bs key

-- whether a set has a key
abbrev pub has : List ℕ → ℕ → Bool
has = inside_after false

-- each key of a set is in another one
abbrev pub IsSubset : List ℕ → List ℕ → Type 0
IsSubset keys others = (key : ℕ) → has keys key ≡ true → has others key ≡ true

-- the list rises strictly, from low on, and stays below high
abbrev pub Rises : ℕ → List ℕ → ℕ → Type 0
Rises low [] high = low ≤ high
Rises low (b ∷ bs) high = (low ≤ b) × Rises (b + 1) bs high

-- the boundaries of a set of keys below 2^63
pub record IsRanges (bs : List ℕ) : Type 0 where
  pub rises : Rises 0 bs (KEYS + 1)
  pub ends : has bs KEYS ≡ false

-- how many keys below a bound pass a test
unfoldable pub count : (ℕ → Bool) → ℕ → ℕ
count test zero = 0
count test (suc bound) = if test bound then count test bound + 1 else count test bound

-- whether a key is in one of the pairs, each a start and an end
abbrev pub pairs_cover : List (ℕ × ℕ) → ℕ → Bool
pairs_cover pairs key = list_any (λ p. nat_le p.0 key && nat_lt key p.1) pairs

-- the refusals of a pair in their order, where the pair before it ends at `end`
abbrev pub pair_checks : ℕ → ℕ × ℕ → List (Option RangesError)
pair_checks end pair =
    when (nat_lt pair.0 end) Unsorted ∷
    when (nat_le pair.1 pair.0) Empty ∷
    when (nat_lt KEYS pair.1) PastEnd ∷ []

-- one refusal, or else another
abbrev pub or_else : Option RangesError → Option RangesError → Option RangesError
or_else None other = other
or_else (Some refusal) other = Some refusal

-- the first refusal of the first pair that has one, where the pair before the first ends at `end`
abbrev pub refusal_from : ℕ → List (ℕ × ℕ) → Option RangesError
refusal_from end [] = None
refusal_from end (pair ∷ pairs) = or_else (first_of (pair_checks end pair)) (refusal_from pair.1 pairs)

-- why pairs are no set, if they are none: nothing ends before the first
abbrev pub refusal_of : List (ℕ × ℕ) → Option RangesError
refusal_of = refusal_from 0

-- whether one holds and not the other
abbrev pub differ : Bool → Bool → Bool
differ true b = not b
differ false b = b

-- the keys from `low` on, of the next so many, at which membership turns, where it was `inside` before
unfoldable pub turns_from : (ℕ → Bool) → Bool → ℕ → ℕ → List ℕ
turns_from member inside low zero = if inside then low ∷ [] else []
turns_from member inside low (suc n) = if differ inside (member low) then low ∷ turns_from member (member low) (low + 1) n else turns_from member inside (low + 1) n

-- the set of the keys that pass a test
abbrev pub keys_where : (ℕ → Bool) → List ℕ
keys_where member = turns_from member false 0 KEYS
