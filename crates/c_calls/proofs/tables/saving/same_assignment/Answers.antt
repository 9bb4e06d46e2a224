use Rattle.std.proofs.Common.{◌≡◌, ◌↔◌, Bool, Option, Some}
use Rattle.std.specs.Bool.{IsTrue}
use Rattle.assignment.specs.Slices.{Slicing}
use Rattle.c_calls.proofs.tables.saving.same_assignment.Goals as goal

same_somes : (one other : Option Slicing) (a b : Slicing) (same : Bool) → one ≡ Some a → other ≡ Some b → IsTrue same ↔ (a ≡ b) → IsTrue same ↔ (one ≡ other)
same_somes one other a b same is_one is_other h =
    (λ t. let e : a ≡ b = h.0 t in cc, λ e. h.1 (let f : one ≡ other = e in cc))

pub returns-in-Some-Some : goal.returns-in-Some-Some
returns-in-Some-Some c = same_somes _ _ _ _ _ c.in-Some-Some.is-0 c.in-Some-Some.is-1 c.eq.ensures.same
