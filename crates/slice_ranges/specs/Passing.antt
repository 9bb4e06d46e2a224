-- What a walk over boundaries does at each of them.
use Rattle.std.specs.Prelude.{◌≡◌, ◌≢◌, ◌⊎◌, ℕ, ◌≤◌, Bool, not, List, [], ◌∷◌}

-- no boundary of the list is below a key
abbrev pub StartsAt : ℕ → List ℕ → Type 0
StartsAt key [] = Unit {0}
StartsAt key (b ∷ bs) = key ≤ b

-- a key is the first boundary of the list
abbrev pub Heads : ℕ → List ℕ → Type 0
Heads key [] = ⊥
Heads key (b ∷ bs) = key ≡ b

-- a key is the lowest boundary of two lists
pub record IsNext (key : ℕ) (first second : List ℕ) : Type 0 where
  pub first_starts : StartsAt key first
  pub second_starts : StartsAt key second
  pub heads : Heads key first ⊎ Heads key second

-- a list, and the membership below it, before and after a key is passed
abbrev pub IsPast : ℕ → Bool → List ℕ → Bool → List ℕ → Type 0
IsPast key inside [] now rest = (now ≡ inside) × (rest ≡ [])
IsPast key inside (b ∷ bs) now rest = ((key ≡ b) × (now ≡ not inside) × (rest ≡ bs)) ⊎ ((key ≢ b) × (now ≡ inside) × (rest ≡ b ∷ bs))
