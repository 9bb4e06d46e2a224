-- What each call answers and leaves, from the assignment that a clerk keeps.
use Rattle.std.specs.Prelude.{ℕ, nat_le, List, [], ◌∷◌, Option, Some, None, Result, Ok, Err}
use Rattle.machines.specs.Refusals.{when, answer}
use Rattle.assignment.specs.Slices.{Slicing}
use Rattle.assignment.specs.Owners.{owners_of}
use Rattle.clerk.specs.declared.clerk.Found.{Found}
use Rattle.clerk.specs.declared.error.Unknown.{Unknown}
use Rattle.clerk.specs.declared.error.ClerkError.{ClerkError}
use Rattle.clerk.specs.declared.error.ClerkError.TheVariants.{Old}

-- an assignment is not above the one that is kept, whose generation is told
abbrev pub not_above : Option Slicing → Slicing → Option ClerkError
not_above None slicing = None
not_above (Some incumbent) slicing = when (nat_le slicing.generation incumbent.generation) (Old incumbent.generation)

-- `learn`
abbrev pub learn_checks : Option Slicing → Slicing → List (Option ClerkError)
learn_checks state slicing = not_above state slicing ∷ []

abbrev pub learn_step : Option Slicing → Slicing → Result (Option Slicing × Unit {0}) ClerkError
learn_step state slicing = answer (learn_checks state slicing) (Some slicing, tt)

-- `look`: the generation of an assignment, and the owners of a key in it
abbrev pub found_in : Slicing → ℕ → Found
found_in slicing key = record { generation = slicing.generation; owners = record { items = owners_of slicing.slices key } }

abbrev pub look_at : Option Slicing → ℕ → Result Found Unknown
look_at None key = Err record {}
look_at (Some incumbent) key = Ok (found_in incumbent key)
