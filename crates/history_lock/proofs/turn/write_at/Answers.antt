use Rattle.std.proofs.Common.{rules, arith, ◌-◌, ap, sym, ◌∙◌, subst}
use Rattle.atomic_table.specs.Table.{rest}
use Rattle.history_lock.specs.Histories.{GrowsBy}
use Rattle.history_lock.specs.Rule.{view_after_return, view_after_write}
use Rattle.history_lock.specs.internals.Seats.{AreOut}
use Rattle.history_lock.proofs.Claimed.{are_out}
use Rattle.history_lock.proofs.Legal.{legal_after}
use Rattle.history_lock.proofs.Told.{held_by_other, is_not_written, new_legal, new_grows, is_written}
use Rattle.history_lock.proofs.turn.write_at.Goals as goal

pub publish-requires-clause-grows : goal.publish-requires-clause-grows
publish-requires-clause-grows g c = let h = c.in_ok-claim_all.ensures.answer in let k = c.take_lane_state-lane_state.ensures in let opened = c.args.common.now.key.value in let lanes = c.requires.opened.2 in let some = c.requires.table.1.some in
    let logged = k.lane_state.logged (omega arith) in (
      c.args.lane,
      ap (λ m. m.0.role) k.back ∙ (ap (λ v. v.role) h.only ∙ c.requires.rests.role),
      subst (λ l. GrowsBy c.args.lane l c.take_event.new.lane_state.history.items) (sym (ap (λ m. m.0.seen) k.back))
          (new_grows g.M.Machine.step opened c.args.lane c.args.seat.now.me.0 _ c.take_lane_state-lane_state.result logged k.lane_state.legal _ c.requires.opened.1 _ (Unit {0}) c.take_event.new.lane_state c.in-Ok.reply c.in-Ok.ensures.turn),
    )

pub spread-requires-clause-out : goal.spread-requires-clause-out
spread-requires-clause-out g c = let k = c.take_lane_state-lane_state.ensures in
    subst (AreOut (c.args.lanes - 1)) (sym (ap (λ x. x.1) c.publish.ensures.back ∙ ap (λ x. rest x.1) k.back)) (are_out g.M.Machine.step c.args.common.now.key.value _ (c.args.lanes - 1) _ k.others)

pub returns-in-Ok-clause-legal : goal.returns-in-Ok-clause-legal
returns-in-Ok-clause-legal g c = let h = c.in_ok-claim_all.ensures.answer in let k = c.take_lane_state-lane_state.ensures in let opened = c.args.common.now.key.value in let lanes = c.requires.opened.2 in let some = c.requires.table.1.some in
    let logged = k.lane_state.logged (omega arith) in let items = c.take_event.new.lane_state.history.items in let last = c.args.lanes - 1 in
    let is = ap (λ x. x.0) c.spread.ensures.back ∙ (ap (λ x. view_after_return x.0 0) c.publish.ensures.back ∙ (ap (λ x. view_after_return (view_after_write x.0 last items) 0) k.back ∙ ap (λ x. view_after_return (view_after_write x last items) 0) h.only)) in
    let legal = new_legal g.M.Machine.step opened c.args.lane c.args.seat.now.me.0 _ c.take_lane_state-lane_state.result logged k.lane_state.legal _ c.requires.opened.1 _ (Unit {0}) c.take_event.new.lane_state c.in-Ok.reply c.in-Ok.ensures.turn in
    legal_after g.M.Machine.step opened c.spread.new.seat.me.0 items _ (ap (λ x. x.opened) is ∙ c.requires.opened.0) (ap (λ x. x.seen) is) legal

pub returns-in-Ok-clause-answer : goal.returns-in-Ok-clause-answer
returns-in-Ok-clause-answer g c = let h = c.in_ok-claim_all.ensures.answer in let k = c.take_lane_state-lane_state.ensures in let opened = c.args.common.now.key.value in let lanes = c.requires.opened.2 in let some = c.requires.table.1.some in
    let logged = k.lane_state.logged (omega arith) in let items = c.take_event.new.lane_state.history.items in let last = c.args.lanes - 1 in
    let is = ap (λ x. x.0) c.spread.ensures.back ∙ (ap (λ x. view_after_return x.0 0) c.publish.ensures.back ∙ (ap (λ x. view_after_return (view_after_write x.0 last items) 0) k.back ∙ ap (λ x. view_after_return (view_after_write x last items) 0) h.only)) in
    is_written g.M.Machine.step opened c.args.lane c.args.seat.now.me.0 _ c.take_lane_state-lane_state.result logged k.lane_state.legal _ c.requires.opened.1 _ _ c.take_event.new.lane_state
    _ _ _ _ _ _ _ (search rules) h.begins c.in-Ok.reply c.requires.rests.role (h.mine (omega arith)) c.in-Ok.ensures.turn is

pub returns-in-Err-clause-answer : goal.returns-in-Err-clause-answer
returns-in-Err-clause-answer g c = let h = c.in_ok-claim_all.ensures.answer in let k = c.take_lane_state-lane_state.ensures in let opened = c.args.common.now.key.value in let lanes = c.requires.opened.2 in let some = c.requires.table.1.some in
    let logged = k.lane_state.logged (omega arith) in let to = c.give_all_back.new.seat.me.0.end in let last = c.args.lanes - 1 in
    let is = ap (λ x. x.0) c.give_all_back.ensures.back ∙ (ap (λ x. view_after_return x.0 to) c.give_back.ensures.back ∙ (ap (λ x. view_after_return (view_after_return x.0 last) to) k.back ∙ ap (λ x. view_after_return (view_after_return x last) to) h.only)) in
    is_not_written g.M.Machine.step opened c.args.lane c.args.seat.now.me.0 _ c.take_lane_state-lane_state.result logged k.lane_state.legal _ c.requires.opened.1 _ _ c.take_event.new.lane_state
    _ _ _ _ _ _ _ (search rules) h.begins c.in-Err.error (h.short (omega arith)) c.in-Err.ensures.turn is

pub returns-in_err-claim_all-clause-answer : goal.returns-in_err-claim_all-clause-answer
returns-in_err-claim_all-clause-answer g c =
    let held = held_by_other c.args.common.now.table_id c.args.common.now.key.value c.args.lane c.args.seat.now.me.0 c.in_err-claim_all.field-0.0
    (c.requires.opened.0) (c.requires.rests.role) c.in_err-claim_all.ensures.answer.refused in search rules
