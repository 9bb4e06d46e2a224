use Rattle.std.proofs.Common.{reverse}
use Rattle.audit.proofs.Splitting.{one_past, point_of}
use Rattle.audit.proofs.laws.points_law.Goals as goal

pub returns-clause-one : goal.returns-clause-one
returns-clause-one c = λ job run past other told first also second. one_past job (reverse run) past other told first also second

pub returns-clause-point : goal.returns-clause-point
returns-clause-point c = λ job before later turn past told run. point_of job before later turn past told run
