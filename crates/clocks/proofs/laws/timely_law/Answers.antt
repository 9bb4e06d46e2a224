use Rattle.clocks.proofs.Bounding.{timely}
use Rattle.clocks.proofs.laws.timely_law.Goals as goal

pub returns : goal.returns
returns c = timely
