-- What holds of every item of a list holds of each member.
use Rattle.std.proofs.Common.{List, [], ◌∷◌, subst, inl, inr}
use Rattle.std.specs.Prelude.{Contains}
use Rattle.std.specs.List.{AllByRecursion}
use Rattle.grants.proofs.Members.{nowhere, first_or_rest}

pub member : {X : Type 0} (P : X → Type 0) (xs : List X) (x : X) → AllByRecursion P xs → Contains xs x → P x
member P [] x all i = absurd (nowhere x i)
member P (y ∷ ys) x all i = elim (first_or_rest y x ys i) [ inl same ↦ subst P same all.0 | inr rest ↦ member P ys x all.1 rest ]
