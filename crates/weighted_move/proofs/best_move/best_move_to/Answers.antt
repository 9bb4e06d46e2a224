use Rattle.std.proofs.Common.{◌∙◌, ℕ, Some, ap, subst, arith}
use Rattle.std.proofs.lemmas.Bool.Decides.{nat_tests}
use Rattle.weighted_move.specs.Loads.{load_in}
use Rattle.weighted_move.specs.Kinds.{IsTakerOf, gain_at}
use Rattle.weighted_move.proofs.Seeking.{best_to_taker}
use Rattle.weighted_move.proofs.best_move.best_move_to.Goals as goal

pub returns : goal.returns
returns c =
    let load = load_in c.args.loads.now in
    let slice = c.args.slice.now in
    let P : ℕ → Type 0 = λ room. IsTakerOf load c.args.tasks.now slice.owners room (Some c.in_ok-taker.taker) in
    best_to_taker load c.args.tasks.now slice c.args.exchange.now c.requires.exchange c.in_ok-taker.taker c.gain_at-gain.result c.requires.wide (subst P c.room.ensures c.in_ok-taker.ensures)
    (c.gain_at-gain.ensures ∙ ap (gain_at c.args.exchange.now) c.of_task.ensures) (grind (arith, nat_tests, c.if-gain-eq0.false))
