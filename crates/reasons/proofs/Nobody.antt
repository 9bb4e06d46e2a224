-- Where there is no assignment, nobody owns a key.
use Rattle.std.proofs.Common.{◌≡◌, ◌∙◌, ℕ, List, [], ◌∷◌, filter, refl, sym, ap}
use Rattle.std.specs.Prelude.{Option, None}
use Rattle.assignment.specs.Slices.{Slicing}
use Rattle.assignment.specs.Owners.{owns, owners_of, tasks}
use Rattle.grants.specs.Assignments.{slices_of}

nobody : (key : ℕ) (some : List ℕ) → filter (owns [] key) some ≡ []
nobody key [] = refl
nobody key (task ∷ some) = nobody key some

pub nobody_owns : (key : ℕ) (o : Option Slicing) → None ≡ o → owners_of (slices_of o) key ≡ []
nobody_owns key o none = ap (λ (a : Option Slicing). owners_of (slices_of a) key) (sym none) ∙ nobody key tasks
