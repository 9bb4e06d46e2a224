use Rattle.std.proofs.Common.{◌<◌}
use Rattle.std.specs.List.{AllAdjacentBelow}
use Rattle.log_run.proofs.judging.double.Given as goal

-- no two neighbours so far have one ticket
abbrev pub invariant-loop-i : goal.invariant-loop-i
invariant-loop-i l = AllAdjacentBelow (λ x y. x.line.ticket < y.line.ticket) l.entries l.i
