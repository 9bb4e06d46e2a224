-- Of two slices that part the keys in halves, each gives its keys to its task.
use Rattle.std.proofs.Common.{◌≡◌, ◌/◌, ◌∙◌, ℕ, Bool, true, false, List, [], ◌∷◌, refl, ap, arith}
use Rattle.std.proofs.lemmas.Bool.Decides.{nat_tests}
use Rattle.std.specs.Prelude.{Some, None, nat_lt, nat_le, if◌then◌else◌}
use Rattle.std.specs.Option.{option_map_or}
use Rattle.slice_ranges.specs.declared.key.TheConstants.{KEYS}
use Rattle.assignment.specs.declared.slice.Slice.{Slice}
use Rattle.assignment.specs.Owners.{built, owns, greater, with_rising_owners}
use Rattle.assignment.specs.Slices.{Slicing, is_among}
use Rattle.assignment.proofs.RisingOwners.{single_stays}

abbrev pub slice_from : ℕ → List ℕ → Slice
slice_from start owners = record { start = start; owners = owners }

-- two slices that part the keys in halves, by their owners
abbrev pub halves_of : List ℕ → List ℕ → List Slice
halves_of lower upper = slice_from 0 lower ∷ slice_from (KEYS / 2) upper ∷ []

-- whether a task owns a key, by whether the key is in the upper half
abbrev owns_in : ℕ → Bool → Bool
owns_in task high =
    option_map_or (λ slice. is_among slice.owners task) (Some (greater (slice_from 0 (1 ∷ [])) (if high then Some (slice_from (KEYS / 2) (2 ∷ [])) else None))) false

owns_by_half : (key task : ℕ) → owns (halves_of (1 ∷ []) (2 ∷ [])) key task ≡ owns_in task (nat_le (KEYS / 2) key)
owns_by_half key task = let zero : nat_le 0 key ≡ true = grind (arith, nat_tests) in rw zero refl

lower_owned : (key : ℕ) → owns_in 1 (nat_le (KEYS / 2) key) ≡ nat_lt key (KEYS / 2)
lower_owned key = by_half (nat_le (KEYS / 2) key) refl
  where
    by_half : (high : Bool) → nat_le (KEYS / 2) key ≡ high → owns_in 1 high ≡ nat_lt key (KEYS / 2)
    by_half true e = let above : nat_lt key (KEYS / 2) ≡ false = grind (arith, nat_tests) in rw above refl
    by_half false e = let below : nat_lt key (KEYS / 2) ≡ true = grind (arith, nat_tests) in rw below refl

upper_owned : (high : Bool) → owns_in 2 high ≡ high
upper_owned true = refl
upper_owned false = refl

module _ (slicing : Slicing) (lower upper : List ℕ) (made : slicing ≡ built 1 (halves_of lower upper)) (one : lower ≡ 1 ∷ []) (two : upper ≡ 2 ∷ []) where
  slices_are : slicing.slices ≡ halves_of (1 ∷ []) (2 ∷ [])
  slices_are =
      ap (λ (s : Slicing). s.slices) made
      ∙ (ap (λ (owners : List ℕ). with_rising_owners (halves_of owners upper)) one
      ∙ (ap (λ (owners : List ℕ). with_rising_owners (halves_of (1 ∷ []) owners)) two ∙ rw (single_stays 0 1 (omega arith) (omega arith), single_stays (KEYS / 2) 2 (omega arith) (omega arith)) refl))

  pub owns_lower : (key : ℕ) → owns slicing.slices key 1 ≡ nat_lt key (KEYS / 2)
  owns_lower key = ap (λ (slices : List Slice). owns slices key 1) slices_are ∙ (owns_by_half key 1 ∙ lower_owned key)

  pub owns_upper : (key : ℕ) → owns slicing.slices key 2 ≡ nat_le (KEYS / 2) key
  owns_upper key = ap (λ (slices : List Slice). owns slices key 2) slices_are ∙ (owns_by_half key 2 ∙ upper_owned (nat_le (KEYS / 2) key))
