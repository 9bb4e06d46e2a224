use Rattle.std.proofs.Common.{Option, subst}
use Rattle.weighted_move.specs.declared.moves.Move.{Move}
use Rattle.weighted_move.specs.Loads.{load_in}
use Rattle.weighted_move.specs.Moves.{IsBestOf}
use Rattle.weighted_move.specs.Kinds.{IsReplacement}
use Rattle.weighted_move.proofs.Choosing.{KnownOr}
use Rattle.weighted_move.proofs.Slicing.{in_turn}
use Rattle.weighted_move.proofs.best_move.best_with.Goals as goal

pub returns : goal.returns
returns c =
    let load = load_in c.args.loads.now in
    let slice = c.args.slice.now in
    let tasks = c.args.tasks.now in
    let P : Option Move → Type 0 = λ o. IsBestOf (KnownOr o (IsReplacement load tasks slice)) c.best_replacement.result in
    in_turn load tasks c.args.redundancy slice c.args.known c.requires.gains c.best_addition-best.result c.best_removal-removed.result c.best_replacement.result c.best_addition-best.ensures c.best_removal-removed.ensures
    (subst P c.leader_of-best.ensures c.best_replacement.ensures)
