use Rattle.std.proofs.Common.{subst, map, List}
use Rattle.std.specs.List.Sorted.{IsPermutation}
use Rattle.std.proofs.lemmas.List.Sorted.{IsPermutation-map}
use Rattle.audit.specs.OneRun.{Turn}
use Rattle.audit.specs.Shown.{turn_of}
use Rattle.audit.proofs.points.sorted_points.Goals as goal

pub returns-clause-each : goal.returns-clause-each
returns-clause-each c = subst (λ (l : List Turn). IsPermutation l (map turn_of c.sort.new.points.items)) c.in_ok-points.ensures (IsPermutation-map turn_of c.in_ok-points.points.items c.sort.new.points.items c.sort.ensures.same)
