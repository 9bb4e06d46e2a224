use Rattle.wire.proofs.KeptValues.{some_term_read}
use Rattle.wire.proofs.kept.term_law.Goals as goal

pub returns-in-Some : goal.returns-in-Some
returns-in-Some c = rw c.in-Some.is (some_term_read c.in-Some.term c.term_bounds.ensures.number c.term_bounds.ensures.assigner c.term_bounds.ensures.until)
