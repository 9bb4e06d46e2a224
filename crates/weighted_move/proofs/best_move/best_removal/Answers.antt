use Rattle.std.proofs.Common.{◌≡◌, ◌∙◌, ℕ, ◌+◌, ◌-◌, ◌^◌, ◌<◌, ◌≤◌, List, length, take, Option, Some, None, sym, ap, subst, arith}
use Rattle.std.specs.Int.{div_ceil}
use Rattle.std.proofs.lemmas.List.{take_all}
use Rattle.weighted_move.specs.declared.moves.Move.{Move}
use Rattle.weighted_move.specs.Loads.{load_in}
use Rattle.weighted_move.specs.Owning.{without_task}
use Rattle.weighted_move.specs.Moves.{IsBestOf, greatest, gain_of}
use Rattle.weighted_move.specs.Kinds.{IsRemovalAmong}
use Rattle.weighted_move.proofs.Loading.{div_ceil-le}
use Rattle.weighted_move.proofs.Gains.{greatest_under}
use Rattle.weighted_move.proofs.Giving.{loaded_with, owner_at}
use Rattle.weighted_move.proofs.Removing.{none_removed, past_loss, past_worse, taken, removing}
use Rattle.weighted_move.proofs.best_move.best_removal.Goals as goal
use Rattle.weighted_move.proofs.best_move.best_removal.Goals.{then-found-gt0+then-is_ahead, else-found-gt0, else-found-gt0-via-then-found-gt0+else-is_ahead, else-found-gt0-via-else-found-gt0}

pub loop-giver-init : goal.loop-giver-init
loop-giver-init c = none_removed _ _ _

pub overflow_add-others : goal.overflow_add-others
overflow_add-others c =
    let most = greatest_under (load_in c.args.loads.now) (2 ^ 60) (without_task c.giver-item.result c.as_slice-owners.result.now) (omega arith) c.requires.small.0 in
    let fewer = div_ceil-le c.args.slice.now.load (length c.as_slice-owners.result.now - 1) (omega (arith, c.if-owners-low.false, c.requires.low)) in
    omega (arith, most, fewer, c.requires.small.1, c.greatest_without.ensures, c.saturating_sub.ensures, c.share_among-fewer.ensures)

gain_is : (c : goal.Joined-found-gt0) → c.saturating_sub-in-loop-giver.result ≡ gain_of (load_in c.args.loads.now) c.args.slice.now (Some c.giver-item.result) None
gain_is c =
    let load = load_in c.args.loads.now in
    let slice = c.args.slice.now in
    let owners = c.as_slice-owners.result.now in
    let giver = c.giver-item.result in
    let value = c.as_slice-owners.ensures.value in
    let count = ap (λ (xs : List ℕ). length xs) value in
    removing load slice giver c.greatest-most.result c.saturating_sub.result c.share_among-fewer.result c.saturating_sub-kept.result c.share-share.result c.max.result c.of_task.result c.greatest_without.result c.saturating_sub-in-loop-giver.result
    (loaded_with load slice owners value c.as_slice-owners.ensures.rises (omega (arith, count, c.if-owners-low.false)) c.requires.shared)
    (owner_at slice.owners owners c.loop-giver.giver-index giver value c.loop-giver-test.true c.giver-item.is)
    (omega (arith, count, c.if-owners-low.false, c.requires.low)) (c.greatest-most.ensures ∙ ap (greatest load) value)
    (c.greatest_without.ensures ∙ ap (λ (xs : List ℕ). greatest load (without_task giver xs)) value) c.share-share.ensures
    (c.share_among-fewer.ensures ∙ ap (λ (xs : List ℕ). div_ceil slice.load (length xs - 1)) value)
    c.saturating_sub.ensures c.of_task.ensures c.saturating_sub-kept.ensures c.max.ensures c.saturating_sub-in-loop-giver.ensures

spare : (c : goal.Joined-found-gt0) → c.args.low < length c.args.slice.now.owners
spare c = let count = ap (λ (xs : List ℕ). length xs) c.as_slice-owners.ensures.value in omega (arith, count, c.if-owners-low.false)

pub loop-giver-preserved : goal.loop-giver-preserved
loop-giver-preserved c =
    let load = load_in c.args.loads.now in
    let low = c.args.low in
    let slice = c.args.slice.now in
    let givers = c.as_slice-owners.result.now in
    let i = c.loop-giver.giver-index in
    let P : Option Move → Type 0 = λ best. IsBestOf (IsRemovalAmong load low slice (take (i + 1) givers)) best in
    elim c.if-found-gt0.branch [
      | then-found-gt0+then-is_ahead w ↦ subst P (sym w.best-is)
          (taken load low slice givers i c.giver-item.result c.loop-giver-test.true c.giver-item.is c.saturating_sub-in-loop-giver.result (gain_is c) (spare c) w.if-found-gt0.true c.loop-giver.best (sym w.is_ahead.ensures ∙ w.if-is_ahead.true) c.loop-giver.invariant)
      | else-found-gt0 w ↦ subst P (sym w.best-is) (elim w.else-found-gt0.branch [
        | else-found-gt0-via-then-found-gt0+else-is_ahead v ↦
            past_worse load low slice givers i c.giver-item.result c.loop-giver-test.true c.giver-item.is c.saturating_sub-in-loop-giver.result (gain_is c) (spare c) v.if-found-gt0.true c.loop-giver.best (sym v.is_ahead.ensures ∙ v.if-is_ahead.false) c.loop-giver.invariant
        | else-found-gt0-via-else-found-gt0 v ↦
            let zero_gain : c.saturating_sub-in-loop-giver.result ≡ 0 = omega (arith, v.if-found-gt0.false) in
            past_loss load low slice givers i c.giver-item.result c.loop-giver-test.true c.giver-item.is c.loop-giver.best (sym (gain_is c) ∙ zero_gain) c.loop-giver.invariant
      ])
    ]

pub returns : goal.returns
returns c =
    let all : take c.loop-giver.giver-index c.as_slice-owners.result.now ≡ c.as_slice-owners.result.now = let done : length c.as_slice-owners.result.now ≤ c.loop-giver.giver-index = c.loop-giver-test.false in take_all _ _ done in
    let P : List ℕ → Type 0 = λ givers. IsBestOf (IsRemovalAmong (load_in c.args.loads.now) c.args.low c.args.slice.now givers) c.loop-giver.best in
    subst P (all ∙ c.as_slice-owners.ensures.value) c.loop-giver.invariant
