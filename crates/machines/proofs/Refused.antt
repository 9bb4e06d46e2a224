-- What follows where a list of refusals finds none.
use Rattle.std.proofs.Common.{◌≡◌, Bool, true, false, List, [], ◌∷◌, refl}
use Rattle.std.specs.Prelude.{Option, Some, None}
use Rattle.std.specs.List.{AllByRecursion}
use Rattle.machines.specs.Refusals.{when, first_of}

pub all_none : {E : Type 0} (checks : List (Option E)) → first_of checks ≡ None → AllByRecursion (λ (c : Option E). c ≡ None) checks
all_none [] h = tt
all_none (None ∷ checks) h = (refl, all_none checks h)
all_none (Some refusal ∷ checks) h = absurd (cc)

pub not_when : {E : Type 0} (b : Bool) (e : E) → when b e ≡ None → b ≡ false
not_when true e h = absurd (cc)
not_when false e h = refl
