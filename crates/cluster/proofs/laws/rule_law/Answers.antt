use Rattle.cluster.specs.continued.Jobs.{from_start}
use Rattle.cluster.proofs.Ruling.{served_by_rule, held_by_rule}
use Rattle.cluster.proofs.laws.rule_law.Goals as goal

pub returns-clause-serve : goal.returns-clause-serve
returns-clause-serve c = λ job past task key at told run. served_by_rule (from_start job) past task key at told run.0

pub returns-clause-hold : goal.returns-clause-hold
returns-clause-hold c = λ job past task key at told run. held_by_rule (from_start job) past task key at told run.0
