-- The actors of a job, by their numbers.
use Rattle.std.specs.Prelude.{◌≡◌, ℕ, ◌+◌, List, Some, length, slice_get}

-- each actor of a list, the first of number 1, is what the past made of it
abbrev pub AreActors : {A : Type 0} → (ℕ → A) → ℕ → List A → Type 0
AreActors actor many actors = (length actors ≡ many) × ((i : ℕ) (a : _) → slice_get actors i ≡ Some a → a ≡ actor (i + 1))
