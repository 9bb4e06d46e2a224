use Rattle.std.proofs.Common.{take}
use Rattle.weighted_move.specs.Loads.{load_in}
use Rattle.weighted_move.specs.Moves.{IsBestOf}
use Rattle.weighted_move.specs.Kinds.{IsReplacementAmong}
use Rattle.weighted_move.proofs.Choosing.{KnownOr}
use Rattle.weighted_move.proofs.best_move.best_replacement.Given as goal

abbrev pub invariant-loop-giver : goal.invariant-loop-giver
invariant-loop-giver l = IsBestOf (KnownOr l.fn.known (IsReplacementAmong (load_in l.loads) l.tasks l.slice (take l.giver-index l.owners))) l.best
