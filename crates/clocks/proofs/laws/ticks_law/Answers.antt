use Rattle.clocks.proofs.Ticking.{ticked, out_of_step}
use Rattle.clocks.proofs.laws.ticks_law.Goals as goal

pub returns-clause-enough : goal.returns-clause-enough
returns-clause-enough c = ticked

pub returns-clause-least : goal.returns-clause-least
returns-clause-least c = out_of_step
