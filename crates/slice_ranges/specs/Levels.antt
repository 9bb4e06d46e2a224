-- A function of keys by levels: each level is a key and the value from there on.
use Rattle.std.specs.Prelude.{ℕ, ◌+◌, ◌≤◌, List, [], ◌∷◌, if◌then◌else◌, nat_lt}

-- a list of levels
abbrev pub Levels : Type 0 → Type 0
Levels V = List (ℕ × V)

-- the value at a key, where `value` holds below the first level
abbrev pub value_after : {V : Type 0} → V → Levels V → ℕ → V
value_after value [] key = value
value_after value (l ∷ levels) key = if nat_lt key l.0 then value else value_after l.1 levels key

-- the keys of the levels rise strictly, from low on, and stay below high
abbrev pub LevelsRise : {V : Type 0} → ℕ → Levels V → ℕ → Type 0
LevelsRise low [] high = low ≤ high
LevelsRise low (l ∷ levels) high = (low ≤ l.0) × LevelsRise (l.0 + 1) levels high

-- no key of the levels is below this
abbrev pub LevelsStartAt : {V : Type 0} → ℕ → Levels V → Type 0
LevelsStartAt low [] = Unit {0}
LevelsStartAt low (l ∷ levels) = low ≤ l.0
