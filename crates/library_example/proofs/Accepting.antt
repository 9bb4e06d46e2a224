-- What an accepted call returns.
use Rattle.std.proofs.Common.{◌≡◌}
use Rattle.std.specs.Prelude.{Option, Some, None, Ok}
use Rattle.machines.specs.Refusals.{unless_refused}

pub answer_is : {A E : Type 0} (o : Option E) (v w : A) → unless_refused o v ≡ Ok w → v ≡ w
answer_is None v w e = cc
answer_is (Some why) v w e = absurd (cc)
