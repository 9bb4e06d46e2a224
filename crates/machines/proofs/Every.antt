-- What holds of every item of a list.
use Rattle.std.proofs.Common.{List, [], ◌∷◌, ◌++◌}
use Rattle.std.specs.List.{AllByRecursion}

pub all_weaker : {X : Type 0} (P Q : X → Type 0) (xs : List X) → ((x : X) → P x → Q x) → AllByRecursion P xs → AllByRecursion Q xs
all_weaker P Q [] weaker h = tt
all_weaker P Q (x ∷ xs) weaker h = (weaker x h.0, all_weaker P Q xs weaker h.1)

pub all_push : {X : Type 0} (P : X → Type 0) (xs : List X) (x : X) → AllByRecursion P xs → P x → AllByRecursion P (xs ++ x ∷ [])
all_push P [] x h p = (p, tt)
all_push P (y ∷ xs) x h p = (h.0, all_push P xs x h.1 p)
