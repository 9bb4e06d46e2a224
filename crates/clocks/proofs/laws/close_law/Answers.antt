use Rattle.clocks.proofs.Freshness.{close, always_close}
use Rattle.clocks.proofs.laws.close_law.Goals as goal

pub returns-clause-fresh : goal.returns-clause-fresh
returns-clause-fresh c = close

pub returns-clause-always : goal.returns-clause-always
returns-clause-always c = always_close
