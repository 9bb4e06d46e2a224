use Rattle.std.proofs.Common.{◌≡◌, take}
use Rattle.weighted_move.specs.Moves.{IsBestOf}
use Rattle.weighted_move.specs.Ranks.{best_ratio}
use Rattle.weighted_move.proofs.Seen.{IsSeen}
use Rattle.weighted_move.proofs.best_move.best_candidate.Given as goal

abbrev pub invariant-loop-rank : goal.invariant-loop-rank
invariant-loop-rank l = record {
  best : IsBestOf (IsSeen l.slices l.tasks l.limits.redundancy l.limits.left (take l.rank-index l.ranks)) l.best;
  ratio : l.ratio ≡ best_ratio l.best;
}
