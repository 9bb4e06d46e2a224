use Rattle.std.proofs.Common.{◌≡◌, true, length, arith}
use Rattle.std.specs.Prelude.{nat_lt}
use Rattle.std.proofs.lemmas.Bool.{lt-ltb}
use Rattle.std.proofs.lemmas.Grind.{common_steps}
use Rattle.assignment.specs.declared.assignment.TheConstants.{MOST_SLICES}
use Rattle.c_calls.proofs.SliceLists.{refusal_by}
use Rattle.c_calls.proofs.assignments.slice_checks.slices_refusal.Goals as goal

pub returns-then-slices-gt-MOST_SLICES : goal.returns-then-slices-gt-MOST_SLICES
returns-then-slices-gt-MOST_SLICES c =
    let many : nat_lt MOST_SLICES (length c.args.slices.now) ≡ true = lt-ltb _ _ c.if-slices-gt-MOST_SLICES.true in
    rw (refusal_by c.args.slices.now, many) (grind (arith, common_steps))
