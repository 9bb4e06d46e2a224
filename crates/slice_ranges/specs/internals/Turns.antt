-- What is written where one range follows another.
use Rattle.std.specs.Prelude.{◌≡◌, ◌≢◌, ◌⊎◌, ℕ, Bool, true, false, List, [], ◌∷◌, ◌++◌}

-- the boundaries between a range that ends at `end`, if there is one, and one that starts at `start`
abbrev pub IsTurned : Bool → ℕ → ℕ → List ℕ → List ℕ → Type 0
IsTurned false end start old new = new ≡ old ++ start ∷ []
IsTurned true end start old new = ((start ≡ end) × (new ≡ old)) ⊎ ((start ≢ end) × (new ≡ (old ++ end ∷ []) ++ start ∷ []))
