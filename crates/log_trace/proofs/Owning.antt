-- Who owns a key that was served.
use Rattle.std.proofs.Common.{◌≡◌, ◌∙◌, ℕ, false, List, refl, sym, ap}
use Rattle.std.specs.Prelude.{Option, Some, None}
use Rattle.assignment.specs.Owners.{owners_of}
use Rattle.assignment.specs.Slices.{Slicing, is_among}
use Rattle.grants.specs.Assignments.{generation_of, slices_of}
use Rattle.lease_table.specs.Tables.{Standing}
use Rattle.reasons.proofs.Nobody.{nobody_owns}
use Rattle.log_trace.specs.Lines.{not_owner_at}

-- before the first commit nobody owns a key
pub nobody_at : (t : Standing) (task key : ℕ) → None ≡ t.committed → Some 0 ≡ not_owner_at t task key
nobody_at t task key none =
    let nobody : is_among (owners_of (slices_of t.committed) key) task ≡ false
    = ap (λ (owners : List ℕ). is_among owners task) (nobody_owns key t.committed none) in
    let zero : 0 ≡ generation_of t.committed = ap (λ (o : Option Slicing). generation_of o) none in
    ap (λ (n : ℕ). Some n) zero ∙ sym (rw nobody refl)
