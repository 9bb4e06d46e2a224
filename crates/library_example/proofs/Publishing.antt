-- A committed proposal is the committed assignment.
use Rattle.std.proofs.Common.{◌≡◌, ◌∙◌, ℕ, sym, ap}
use Rattle.std.specs.Prelude.{Some, Ok}
use Rattle.machines.specs.Refusals.{first_of}
use Rattle.assignment.specs.Slices.{Slicing}
use Rattle.lease_table.specs.Tables.{Standing}
use Rattle.lease_table.specs.Steps.{propose_checks, commit_checks, propose_step, commit_step, standing_at}
use Rattle.library_example.proofs.Accepting.{answer_is}

pub committed_as_proposed : (before proposed committed : Standing) (number at generation : ℕ) (slicing : Slicing) (done : Unit {0})
    → propose_step before number slicing at ≡ Ok (proposed, done) → commit_step proposed number at ≡ Ok (committed, generation)
    → committed.committed ≡ Some slicing
committed_as_proposed before proposed committed number at generation slicing done propose commit =
    let is_proposed : (record (standing_at before at) { pending = Some slicing }, tt) ≡ (proposed, done) =
    answer_is (first_of (propose_checks before number slicing at)) _ _ propose in
    ap (λ (p : Standing × ℕ). p.0.committed) (sym (answer_is (first_of (commit_checks proposed number at)) _ _ commit))
    ∙ ap (λ (p : Standing × Unit {0}). p.0.pending) (sym is_proposed)
