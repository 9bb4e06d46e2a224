use Rattle.slicelet.proofs.Standing.{opens, steps_on, held_by_calls, greatest_by_calls, rule_by_calls, checks_after}
use Rattle.slicelet.proofs.laws.state_law.Goals as goal

pub returns-clause-opening : goal.returns-clause-opening
returns-clause-opening c = λ task. opens task

pub returns-clause-next : goal.returns-clause-next
returns-clause-next c = λ calls state call taken stands step. steps_on calls state call taken stands step

pub returns-clause-held : goal.returns-clause-held
returns-clause-held c = λ calls state kind stands. held_by_calls calls state kind stands

pub returns-clause-greatest : goal.returns-clause-greatest
returns-clause-greatest c = λ calls state kind stands. greatest_by_calls calls state kind stands

pub returns-clause-rule : goal.returns-clause-rule
returns-clause-rule c = λ covers calls state at stands. rule_by_calls covers calls state at stands

pub returns-clause-checked : goal.returns-clause-checked
returns-clause-checked c = λ calls state handle at inside stands. checks_after calls state handle at inside stands
