use Rattle.log_lines.proofs.ReadBack.{learn_read, forget_read}
use Rattle.log_lines.proofs.line_laws.clerk_law.Goals as goal

pub returns-in-Learn : goal.returns-in-Learn
returns-in-Learn c = rw c.in-Learn.is (learn_read c.args.ticket c.args.clerk c.in-Learn.assignment c.args.words.now c.slices-slices.ensures.accepted c.slices-slices.ensures.rising)

pub returns-in-Forget : goal.returns-in-Forget
returns-in-Forget c = rw c.in-Forget.is (forget_read c.args.ticket c.args.clerk c.args.words.now)
