use Rattle.clocks.proofs.Restarting.{restarted}
use Rattle.clocks.proofs.laws.restart_law.Goals as goal

pub returns : goal.returns
returns c = restarted
