use Rattle.std.proofs.Common.{◌≡◌, ◌∙◌, ℕ, ◌≤◌, List, length, take, subst}
use Rattle.std.proofs.lemmas.List.{take_all}
use Rattle.weighted_move.specs.Loads.{load_in}
use Rattle.weighted_move.specs.Moves.{IsBestOf}
use Rattle.weighted_move.specs.Kinds.{IsReplacementAmong}
use Rattle.weighted_move.proofs.Choosing.{KnownOr}
use Rattle.weighted_move.proofs.Giving.{after_giver, at_first, owner_at, loaded_with, positive, replacing}
use Rattle.weighted_move.proofs.best_move.best_replacement.Goals as goal

pub loop-giver-init : goal.loop-giver-init
loop-giver-init c = at_first c.args.known (load_in c.args.loads.now) c.args.tasks.now c.args.slice.now

pub best_exchange-best-requires-clause-gains : goal.best_exchange-best-requires-clause-gains
best_exchange-best-requires-clause-gains c =
    positive c.args.known (load_in c.args.loads.now) c.args.tasks.now c.args.slice.now c.requires.gains (take c.loop-giver.giver-index c.as_slice-owners.result.now) c.loop-giver.best c.loop-giver.invariant

pub best_exchange-best-requires-clause-exchange : goal.best_exchange-best-requires-clause-exchange
best_exchange-best-requires-clause-exchange c =
    let load = load_in c.args.loads.now in
    let slice = c.args.slice.now in
    let owners = c.as_slice-owners.result.now in
    let value = c.as_slice-owners.ensures.value in
    let giver = c.giver-item.result in
    replacing load c.args.tasks.now slice giver c.of_task-from.result c.saturating_sub-kept.result c.share-share.result
    (loaded_with load slice owners value c.as_slice-owners.ensures.rises c.requires.some c.requires.shared)
    (owner_at slice.owners owners c.loop-giver.giver-index giver value c.loop-giver-test.true c.giver-item.is)
    c.requires.set c.of_task-from.ensures c.share-share.ensures c.saturating_sub-kept.ensures (c.requires.small.0 giver) c.requires.small.1

pub loop-giver-preserved : goal.loop-giver-preserved
loop-giver-preserved c =
    after_giver c.args.known (load_in c.args.loads.now) c.args.tasks.now c.args.slice.now c.requires.gains c.as_slice-owners.result.now c.loop-giver.giver-index c.giver-item.result c.loop-giver-test.true c.giver-item.is
    c.loop-giver.best c.best_exchange-best.result c.loop-giver.invariant c.best_exchange-best.ensures

pub returns : goal.returns
returns c =
    let all : take c.loop-giver.giver-index c.as_slice-owners.result.now ≡ c.as_slice-owners.result.now = let done : length c.as_slice-owners.result.now ≤ c.loop-giver.giver-index = c.loop-giver-test.false in take_all _ _ done in
    let P : List ℕ → Type 0 = λ givers. IsBestOf (KnownOr c.args.known (IsReplacementAmong (load_in c.args.loads.now) c.args.tasks.now c.args.slice.now givers)) c.loop-giver.best in
    subst P (all ∙ c.as_slice-owners.ensures.value) c.loop-giver.invariant
