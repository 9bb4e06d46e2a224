-- What an accepted call of a task leaves.
use Rattle.std.proofs.Common.{◌≡◌, ℕ, List, ◌∷◌, sym, ◌∙◌}
use Rattle.std.specs.Prelude.{Ok}
use Rattle.grants.specs.declared.slicelet_call.SliceletCall.{SliceletCall}
use Rattle.grants.specs.declared.slicelet_call.SliceletReply.{SliceletReply}
use Rattle.slicelet.specs.States.{SliceletState, state_after}
use Rattle.slicelet.specs.Steps.{slicelet_step}
use Rattle.slicelet.proofs.Standing.{accepted_step, next_after}

pub next_history : (task : ℕ) (h : List SliceletCall) (c : SliceletCall) (left : SliceletState × SliceletReply) → slicelet_step (state_after task h) c ≡ Ok left
    → left.0 ≡ state_after task (c ∷ h)
next_history task h c left e = let step = accepted_step (state_after task h) c left e in sym step.1 ∙ next_after task h c step.0
