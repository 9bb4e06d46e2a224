use Rattle.diagnosis.proofs.FirstFault.{refused_first, read_none}
use Rattle.diagnosis.proofs.laws.first_fault_law.Goals as goal

pub returns-clause-refused : goal.returns-clause-refused
returns-clause-refused c = refused_first

pub returns-clause-script : goal.returns-clause-script
returns-clause-script c = read_none
