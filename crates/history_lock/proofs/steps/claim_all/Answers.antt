use Rattle.std.proofs.Common.{arith, ◌∙◌}
use Rattle.history_lock.proofs.Claimed.{claims_more, turned_back}
use Rattle.history_lock.proofs.steps.claim_all.Goals as goal

pub loop-next-preserved : goal.loop-next-preserved
loop-next-preserved g c = let inv = c.loop-next.invariant in let a = c.in_default.ensures.answer in
    (c.claim_next.ensures.table ∙ inv.0, claims_more g.M.Machine.step c.args.common.now.key.value c.args.seat.now.me.0 c.loop-next.next _ _ _ _ a.0 a.1 (omega arith) inv.1 c.requires.opened a.2 a.3)

pub returns-in-Err-clause-answer : goal.returns-in-Err-clause-answer
returns-in-Err-clause-answer g c = let inv = c.loop-next.invariant in let a = c.in-Err.ensures.answer in
    turned_back g.M.Machine.step c.args.common.now.key.value c.args.seat.now.me.0 c.loop-next.next _ _ _ _ _ inv.1 c.requires.idle.0 a.1 a.0
    c.give_all_back.ensures.back c.give_all_back.ensures.idle
