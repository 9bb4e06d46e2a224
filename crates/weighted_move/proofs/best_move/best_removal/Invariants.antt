use Rattle.std.proofs.Common.{take}
use Rattle.weighted_move.specs.Loads.{load_in}
use Rattle.weighted_move.specs.Moves.{IsBestOf}
use Rattle.weighted_move.specs.Kinds.{IsRemovalAmong}
use Rattle.weighted_move.proofs.best_move.best_removal.Given as goal

abbrev pub invariant-loop-giver : goal.invariant-loop-giver
invariant-loop-giver l = IsBestOf (IsRemovalAmong (load_in l.loads) l.low l.slice (take l.giver-index l.owners)) l.best
