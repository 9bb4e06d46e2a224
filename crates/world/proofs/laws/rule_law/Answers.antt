use Rattle.world.proofs.Ruling.{served_by_rule, may_be_served}
use Rattle.world.proofs.laws.rule_law.Goals as goal

pub returns-clause-told : goal.returns-clause-told
returns-clause-told c = λ job past task key at answer run. served_by_rule job past task key at answer run

pub returns-clause-may : goal.returns-clause-may
returns-clause-may c = λ job past task key run. may_be_served job past task key run
