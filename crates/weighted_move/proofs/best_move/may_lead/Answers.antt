use Rattle.std.proofs.Common.{◌∙◌, sym}
use Rattle.std.proofs.lemmas.Bool.{OnFalse_from}
use Rattle.weighted_move.proofs.Seeking.{none_ahead}
use Rattle.weighted_move.proofs.best_move.may_lead.Goals as goal

pub returns-then-bound-gt0 : goal.returns-then-bound-gt0
returns-then-bound-gt0 c =
    OnFalse_from _ _ (λ behind. none_ahead c.args.slice.now.start c.args.slice.now.width c.args.bound c.args.giver.now c.args.best.now c.requires (sym c.is_ahead.ensures ∙ behind))
