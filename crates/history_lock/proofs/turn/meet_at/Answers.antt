use Rattle.std.proofs.Common.{rules, arith, ap, sym, subst, ◌∷◌, Some, ◌∙◌}
use Rattle.history_lock.proofs.Deals.{tells, meets}
use Rattle.atomic_table.specs.Table.{rest}
use Rattle.history_lock.specs.Rule.{IsLaneState, view_after_return}
use Rattle.history_lock.proofs.Legal.{legal_after}
use Rattle.history_lock.proofs.Told.{held_by_other}
use Rattle.history_lock.proofs.turn.meet_at.Goals as goal

pub split_seat-news-requires : goal.split_seat-news-requires
split_seat-news-requires g c = (c.requires.other, search rules, tells g.M.Machine.step c.args.common.now.key.value _ _)

pub join_seat-requires : goal.join_seat-requires
join_seat-requires g c = let s = c.split_seat-news.ensures in
    (c.requires.table.0, s.3 ∙ c.requires.other, ap (λ m. m.1) s.4, search rules, meets g.M.Machine.step c.args.common.now.key.value _ _ _ _ c.requires.rests.idle (let from = ap (λ m. m.0.start) s.4 in let to = ap (λ m. m.0.end) s.4 in omega arith))

pub returns-clause-legal : goal.returns-clause-legal
returns-clause-legal g c = let k = c.in_ok-claim.ensures.answer in let opened = c.args.common.now.key.value in let lane = c.args.lane in
    let is = ap (λ x. x.0) c.hand_back.ensures.back ∙ ap (λ x. view_after_return x.0 lane) k.2 in let knows = ap (λ m. m.0.opened) c.join_seat.ensures.2 ∙ c.requires.opened in
    legal_after g.M.Machine.step opened c.hand_back.new.seat.me.0 k.1 _ (ap (λ x. x.opened) is ∙ knows) (ap (λ x. x.seen) is) (k.3.lane_state opened knows).legal

pub hand_back-requires-clause-out : goal.hand_back-requires-clause-out
hand_back-requires-clause-out g c = let a = c.in_ok-claim.ensures.answer in let has = ap (λ m. m.1) a.2 in let knows = ap (λ m. m.0.opened) c.join_seat.ensures.2 ∙ c.requires.opened in
    (a.0, has ∙ ap (λ l. (c.args.lane, Some a.0) ∷ rest l) (sym has), subst (λ l. IsLaneState g.M.Machine.step c.args.common.now.key.value l c.args.lane a.0) (sym (ap (λ m. m.0.seen) a.2)) (a.3.lane_state c.args.common.now.key.value knows))

pub returns-in_err-claim-clause-answer : goal.returns-in_err-claim-clause-answer
returns-in_err-claim-clause-answer g c =
    let held = held_by_other c.args.common.now.table_id c.args.common.now.key.value c.args.lane c.join_seat.new.seat.me.0 c.in_err-claim.field-0.0
    (ap (λ m. m.0.opened) c.join_seat.ensures.2 ∙ c.requires.opened) (ap (λ m. m.0.role) c.join_seat.ensures.2 ∙ c.requires.rests.role) c.in_err-claim.ensures.answer.1 in search rules
