use Rattle.lease_table.proofs.KeptValues.{taken}
use Rattle.lease_table.proofs.laws.kept_law.Goals as goal

pub returns-clause-taken : goal.returns-clause-taken
returns-clause-taken c = λ policy past within run. taken policy within past run
