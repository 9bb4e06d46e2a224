use Rattle.world.proofs.Planning.{planned_from_draft}
use Rattle.world.proofs.laws.planned_law.Goals as goal

pub returns : goal.returns
returns c = λ job past loads tasks bounds plan run. planned_from_draft job past loads tasks bounds c.plan_law.ensures.accepted plan run.0
