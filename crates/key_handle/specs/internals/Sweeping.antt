-- What a walk over stamps and the boundaries of two sets does at each key.
use Rattle.std.specs.Prelude.{◌≡◌, ◌≢◌, ◌⊎◌, ℕ, List, [], ◌∷◌}
use Rattle.slice_ranges.specs.Levels.{Levels, LevelsStartAt}
use Rattle.slice_ranges.specs.Passing.{StartsAt, Heads}
use Rattle.key_handle.specs.Stamps.{Stamps}

-- a key is the first one of the levels
abbrev pub HeadsLevels : {V : Type 0} → ℕ → Levels V → Type 0
HeadsLevels key [] = ⊥
HeadsLevels key (l ∷ levels) = key ≡ l.0

-- a key is the lowest of the first keys of three lists
pub record IsNextOfThree (key : ℕ) (levels : Stamps) (first second : List ℕ) : Type 0 where
  pub levels_start : LevelsStartAt key levels
  pub first_starts : StartsAt key first
  pub second_starts : StartsAt key second
  pub heads : HeadsLevels key levels ⊎ (Heads key first ⊎ Heads key second)

-- levels, and the value below them, before and after a key is passed
abbrev pub IsPastLevel : {V : Type 0} → ℕ → V → Levels V → V → Levels V → Type 0
IsPastLevel key value [] now rest = (now ≡ value) × (rest ≡ [])
IsPastLevel key value (l ∷ levels) now rest = ((key ≡ l.0) × (now ≡ l.1) × (rest ≡ levels)) ⊎ ((key ≢ l.0) × (now ≡ value) × (rest ≡ l ∷ levels))
