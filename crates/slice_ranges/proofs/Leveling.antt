-- Facts on levels.
use Rattle.std.proofs.Common.{◌≡◌, ℕ, ◌+◌, ◌<◌, ◌≤◌, List, [], ◌∷◌, refl, arith}
use Rattle.std.proofs.lemmas.Bool.{lt-ltb, le-ltb}
use Rattle.slice_ranges.specs.Levels.{Levels, value_after, LevelsRise, LevelsStartAt}

-- below the first of its keys a list of levels changes nothing
pub value_below : {V : Type 0} (value : V) (levels : Levels V) (low k : ℕ) → LevelsStartAt low levels → k < low → value_after value levels k ≡ value
value_below value [] low k r l = refl
value_below value (s ∷ levels) low k r l = rw (lt-ltb k s.0 (omega (arith, r)))

-- from the first of its keys on a list of levels is its tail
pub value_above : {V : Type 0} (value : V) (s : ℕ × V) (levels : Levels V) (k : ℕ) → s.0 ≤ k → value_after value (s ∷ levels) k ≡ value_after s.1 levels k
value_above value s levels k l = rw (le-ltb k s.0 l)

pub levels_start : {V : Type 0} (low : ℕ) (levels : Levels V) (high : ℕ) → LevelsRise low levels high → LevelsStartAt low levels
levels_start low [] high r = tt
levels_start low (s ∷ levels) high r = r.0

pub levels_bounds : {V : Type 0} (low : ℕ) (levels : Levels V) (high : ℕ) → LevelsRise low levels high → low ≤ high
levels_bounds low [] high r = r
levels_bounds low (s ∷ levels) high r = let h = levels_bounds (s.0 + 1) levels high r.1 in omega (arith, r.0)
