use Rattle.clocks.proofs.Keeping.{best, rising}
use Rattle.clocks.proofs.laws.keeping_law.Goals as goal

pub returns-clause-best : goal.returns-clause-best
returns-clause-best c = best

pub returns-clause-rising : goal.returns-clause-rising
returns-clause-rising c = rising
