use Rattle.std.proofs.Common.{sym, arith}
use Rattle.weighted_move.specs.Loads.{load_in}
use Rattle.weighted_move.proofs.Seeking.{lowest_takes}
use Rattle.weighted_move.proofs.best_move.best_taker.Goals as goal

pub returns-then-not-contains : goal.returns-then-not-contains
returns-then-not-contains c =
    lowest_takes (load_in c.args.loads.now) c.args.tasks.now c.args.owners.now c.args.room c.args.lowest c.requires.lowest (sym c.if-not-contains.ensures) (omega (arith, c.of_task.ensures, c.if-room-of_task.true))
