use Rattle.std.proofs.Common.{◌<◌}
use Rattle.std.specs.List.{AllAdjacentBelow}
use Rattle.audit.specs.OneRun.{ticket_of}
use Rattle.audit.proofs.points.fall.Given as goal

-- the entries so far rise
abbrev pub invariant-loop-i : goal.invariant-loop-i
invariant-loop-i g l = AllAdjacentBelow (λ x y. ticket_of x < ticket_of y) l.entries l.i
