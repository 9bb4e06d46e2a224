use Rattle.std.proofs.Common.{◌<◌}
use Rattle.std.specs.List.{AllAdjacentBelow}
use Rattle.audit.specs.Shown.{turn_of}
use Rattle.audit.proofs.points.twice.Given as goal

-- no two neighbours so far have one ticket
abbrev pub invariant-loop-i : goal.invariant-loop-i
invariant-loop-i l = AllAdjacentBelow (λ x y. (turn_of x).ticket < (turn_of y).ticket) l.points l.i
