-- Boundaries by twos.
use Rattle.std.specs.Prelude.{ℕ, List, [], ◌∷◌}

-- there are not two of them
abbrev pub HasNoPair : List ℕ → Type 0
HasNoPair [] = Unit {0}
HasNoPair (b ∷ []) = Unit {0}
HasNoPair (a ∷ b ∷ bs) = ⊥
