use Rattle.std.proofs.Common.{◌∙◌, Option, sym, ap, subst}
use Rattle.std.proofs.lemmas.Bool.{OnFalse_at}
use Rattle.weighted_move.specs.declared.moves.Move.{Move}
use Rattle.weighted_move.specs.Loads.{load_in}
use Rattle.weighted_move.specs.Moves.{IsBestOf}
use Rattle.weighted_move.specs.Kinds.{IsMoveTo, gain_at}
use Rattle.weighted_move.proofs.Choosing.{KnownOr, both_best, known_best, with_known}
use Rattle.weighted_move.proofs.Seeking.{move_gains, none_exchanged}
use Rattle.weighted_move.proofs.best_move.best_exchange.Goals as goal

pub returns-then-may_lead : goal.returns-then-may_lead
returns-then-may_lead c =
    let load = load_in c.args.loads.now in
    let tasks = c.args.tasks.now in
    let slice = c.args.slice.now in
    let giver = c.args.exchange.now.giver in
    let known = c.args.known in
    let P : Option Move → Type 0 = λ o. IsBestOf (KnownOr known (IsMoveTo load tasks slice giver)) o in
    subst P (sym c.leader_of.ensures)
    (both_best _ _ _ (with_known known (IsMoveTo load tasks slice giver) c.requires.gains (move_gains load tasks slice giver)) known c.best_move_to.result (known_best known) c.best_move_to.ensures)

pub returns-else-may_lead : goal.returns-else-may_lead
returns-else-may_lead c =
    none_exchanged (load_in c.args.loads.now) c.args.tasks.now c.args.slice.now c.args.exchange.now c.requires.exchange c.args.known c.args.lowest c.gain_at-bound.result c.requires.gains c.requires.lowest
    (c.gain_at-bound.ensures ∙ ap (gain_at c.args.exchange.now) c.of_task.ensures) (OnFalse_at c.if-may_lead.false c.may_lead.ensures)
