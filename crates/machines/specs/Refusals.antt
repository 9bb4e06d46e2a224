-- Refusals in their order.
use Rattle.std.specs.Prelude.{Bool, List, [], ◌∷◌, Option, Some, None, Result, Ok, Err, if◌then◌else◌}

-- a refusal, where its condition holds
abbrev pub when : {E : Type 0} → Bool → E → Option E
when holds refusal = if holds then Some refusal else None

-- the first refusal of a list that is one
abbrev pub first_of : {E : Type 0} → List (Option E) → Option E
first_of [] = None
first_of (None ∷ checks) = first_of checks
first_of (Some refusal ∷ checks) = Some refusal

-- a refusal, or else the value
abbrev pub unless_refused : {A E : Type 0} → Option E → A → Result A E
unless_refused None value = Ok value
unless_refused (Some refusal) value = Err refusal

-- the first refusal of a list, or else the value
abbrev pub answer : {A E : Type 0} → List (Option E) → A → Result A E
answer checks value = unless_refused (first_of checks) value
