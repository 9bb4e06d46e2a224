-- What numbers of C stand for.
use Rattle.std.specs.Prelude.{ℕ, ◌==◌, ℤ, pos, negsuc, List, [], ◌∷◌, Option, Some, None, if◌then◌else◌}

-- what a number stands for in a list of numbers with what they stand for
abbrev pub coded : {A : Type 0} → List (ℕ × A) → ℕ → Option A
coded [] number = None
coded (entry ∷ entries) number = if number == entry.0 then Some entry.1 else coded entries number

-- a code that is not negative
abbrev pub code_of : ℤ → Option ℕ
code_of (pos n) = Some n
code_of (negsuc n) = None
