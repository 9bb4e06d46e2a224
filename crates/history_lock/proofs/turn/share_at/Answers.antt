use Rattle.std.proofs.Common.{rules, ◌∷◌, Some, ap, sym, ◌∙◌, subst}
use Rattle.atomic_table.specs.Table.{rest}
use Rattle.history_lock.specs.Rule.{IsLaneState, view_after_return}
use Rattle.std.specs.Option.{option_copied}
use Rattle.history_lock.proofs.Claimed.{front_is, same_some}
use Rattle.history_lock.proofs.Legal.{legal_after}
use Rattle.history_lock.proofs.Told.{held_by_other, shown}
use Rattle.history_lock.proofs.turn.share_at.Goals as goal

pub slot_mut-requires : goal.slot_mut-requires
slot_mut-requires g c = let a = c.in_ok-claim.ensures.answer in let has = ap (λ m. m.1) a.2 in
    (c.in_ok-claim.ensures.table ∙ c.requires.table.0, (Some a.0, has ∙ ap (λ l. (c.args.lane, Some a.0) ∷ rest l) (sym has)))

pub hand_back-requires-clause-out : goal.hand_back-requires-clause-out
hand_back-requires-clause-out g c = let a = c.in_ok-claim.ensures.answer in let is = front_is c.args.lane _ _ _ _ _ c.slot_mut.ensures.value (ap (λ m. m.1) a.2) in
    (a.0, (λ i. (c.args.lane, is i) ∷ rest c.claim.new.seat.me.1), subst (λ l. IsLaneState g.M.Machine.step c.args.common.now.key.value l c.args.lane a.0) (sym (ap (λ m. m.0.seen) a.2)) (a.3.lane_state c.args.common.now.key.value c.requires.opened))

pub returns-clause-legal : goal.returns-clause-legal
returns-clause-legal g c = let a = c.in_ok-claim.ensures.answer in let opened = c.args.common.now.key.value in
    let is = ap (λ x. x.0) c.hand_back.ensures.back ∙ ap (λ x. view_after_return x.0 c.args.lane) a.2 in
    legal_after g.M.Machine.step opened c.hand_back.new.seat.me.0 a.1 _ (ap (λ x. x.opened) is ∙ c.requires.opened) (ap (λ x. x.seen) is) (a.3.lane_state opened c.requires.opened).legal

pub returns-clause-answer : goal.returns-clause-answer
returns-clause-answer g c = let a = c.in_ok-claim.ensures.answer in let opened = c.args.common.now.key.value in
    let is = ap (λ x. x.0) c.hand_back.ensures.back ∙ ap (λ x. view_after_return x.0 c.args.lane) a.2 in
    let slot = front_is c.args.lane _ _ _ _ _ c.slot_mut.ensures.value (ap (λ m. m.1) a.2) in
    let same = same_some c.unwrap-lane_state.result.now a.0 (sym (ap option_copied c.unwrap-lane_state.ensures) ∙ (c.as_ref.ensures.value ∙ slot)) in
    (c.unwrap-lane_state.result.now.machine, search rules, shown g.M.Machine.step opened c.args.lane c.args.seat.now.me.0 a.1 _ _ _ _ _ _ _ _ (search rules) a.3.begins ((a.3.lane_state opened c.requires.opened).legal ∙ ap (λ b. Some b.machine) (sym same)) is)

pub returns-in_err-claim-clause-answer : goal.returns-in_err-claim-clause-answer
returns-in_err-claim-clause-answer g c =
    let held = held_by_other c.args.common.now.table_id c.args.common.now.key.value c.args.lane c.args.seat.now.me.0 c.in_err-claim.field-0.0
    (c.requires.opened) (c.requires.rests.role) c.in_err-claim.ensures.answer.1 in search rules
