-- A clerk that learnt one assignment finds the owners of a key in it.
use Rattle.std.proofs.Common.{◌≡◌, ◌∙◌, ℕ, sym, ap}
use Rattle.std.specs.Prelude.{Option, Some, None, Result, Ok}
use Rattle.std.specs.Result.{result_unwrap_or}
use Rattle.assignment.specs.Slices.{Slicing}
use Rattle.clerk.specs.declared.clerk.Found.{Found}
use Rattle.clerk.specs.declared.error.Unknown.{Unknown}
use Rattle.clerk.specs.Steps.{learn_step, look_at, found_in}
use Rattle.library_example.proofs.Accepting.{answer_is}

pub found_alone : (opening state : Option Slicing) (sent received : Slicing) (done : Unit {0}) (key : ℕ) (found : Found)
    → opening ≡ None → received ≡ sent → learn_step opening received ≡ Ok (state, done) → Ok found ≡ look_at state key
    → found ≡ found_in sent key
found_alone opening state sent received done key found new same learn look =
    let fresh : learn_step None received ≡ Ok (state, done) = ap (λ (s : Option Slicing). learn_step s received) (sym new) ∙ learn in
    let knows : state ≡ Some received = ap (λ (p : Option Slicing × Unit {0}). p.0) (sym (answer_is None (Some received, tt) (state, done) fresh)) in
    let finds : Ok found ≡ look_at (Some received) key = look ∙ ap (λ (s : Option Slicing). look_at s key) knows in
    ap (λ (r : Result Found Unknown). result_unwrap_or r found) finds ∙ ap (λ (slicing : Slicing). found_in slicing key) same
