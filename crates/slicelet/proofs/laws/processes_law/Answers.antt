use Rattle.slicelet.proofs.Processes.{start_above, earlier_strange, ended_closes}
use Rattle.slicelet.proofs.laws.processes_law.Goals as goal

pub returns-clause-start : goal.returns-clause-start
returns-clause-start c = λ task life at h accepted. start_above task life at h accepted

pub returns-clause-strange : goal.returns-clause-strange
returns-clause-strange c = λ task life later h handle accepted l. earlier_strange task life later h handle accepted l

pub returns-clause-notes : goal.returns-clause-notes
returns-clause-notes c = λ task life row tasks lives numbers. ended_closes task life row tasks lives numbers
