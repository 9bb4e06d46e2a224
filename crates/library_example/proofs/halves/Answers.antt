use Rattle.library_example.proofs.HalfOwners.{owns_lower, owns_upper}
use Rattle.library_example.proofs.halves.Goals as goal

pub returns-clause-lower : goal.returns-clause-lower
returns-clause-lower c =
    owns_lower c.in_ok-build.field-0 c.in_ok-from_slice.field-0 c.in_ok-from_slice-2.field-0 c.in_ok-build.ensures.built c.in_ok-from_slice.ensures c.in_ok-from_slice-2.ensures

pub returns-clause-upper : goal.returns-clause-upper
returns-clause-upper c =
    owns_upper c.in_ok-build.field-0 c.in_ok-from_slice.field-0 c.in_ok-from_slice-2.field-0 c.in_ok-build.ensures.built c.in_ok-from_slice.ensures c.in_ok-from_slice-2.ensures
