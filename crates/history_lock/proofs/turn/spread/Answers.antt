use Rattle.std.proofs.Common.{rules, arith, ◌≡◌, suc, ◌∷◌, length, Some, ap, sym, ◌∙◌, subst}
use Rattle.atomic_table.specs.Table.{rest}
use Rattle.history_lock.specs.Histories.{replay}
use Rattle.history_lock.specs.Rule.{view_after_return}
use Rattle.history_lock.specs.internals.Seats.{AreOut, AreCopies}
use Rattle.history_lock.proofs.Claimed.{copies_last, copies_long, length_snoc}
use Rattle.history_lock.proofs.turn.spread.Goals as goal

pub loop-machine-init : goal.loop-machine-init
loop-machine-init g c =
    let m = c.requires.machines in let items = c.args.machines.items in let me = c.args.seat.now.me in let e = copies_long m.0 c.args._lanes items m.1 in
    let to = c.requires.range.1 ∙ sym e in
    (search rules, (omega arith), subst (λ n. AreOut n me.1) (sym e) c.requires.out, (m.0, subst (λ n. AreCopies m.0 n items) (sym e) m.1, m.2), λ i. record me.0 { end = to i })

pub give_back-requires-clause-out : goal.give_back-requires-clause-out
give_back-requires-clause-out g c =
    let inv = c.loop-machine.invariant in let me = c.loop-machine.seat.me in let items = c.pop.new.self.items in
    let long : length c.loop-machine.machines.items ≡ suc (length items) = ap length c.in-Some.ensures.items ∙ length_snoc items c.in-Some.machine in
    let a = subst (λ n. AreOut n me.1) long inv.2 in let same : c.len-lane.result ≡ length items = search rules in
    (Some a.0, a.1 ∙ (λ i. (sym same i, Some a.0) ∷ rest me.1))

pub give_back-requires-clause-lane_state : goal.give_back-requires-clause-lane_state
give_back-requires-clause-lane_state g c =
    let inv = c.loop-machine.invariant in let items = c.pop.new.self.items in let old = c.loop-machine.machines.items in let m = inv.3 in
    let long : length old ≡ suc (length items) = ap length c.in-Some.ensures.items ∙ length_snoc items c.in-Some.machine in
    let last = copies_last m.0 (length items) items c.in-Some.machine (subst (AreCopies m.0 (suc (length items))) c.in-Some.ensures.items (subst (λ n. AreCopies m.0 n old) long m.1)) in
    let same : c.len-lane.result ≡ length items = search rules in let most = inv.1 in let lanes = c.requires.table.1 in
    record { legal = m.2 ∙ ap Some (sym last.1); logged = λ e. absurd (omega arith) }

pub loop-machine-preserved : goal.loop-machine-preserved
loop-machine-preserved g c =
    let inv = c.loop-machine.invariant in let me = c.loop-machine.seat.me in let items = c.pop.new.self.items in let old = c.loop-machine.machines.items in let m = inv.3 in
    let long : length old ≡ suc (length items) = ap length c.in-Some.ensures.items ∙ length_snoc items c.in-Some.machine in
    let last = copies_last m.0 (length items) items c.in-Some.machine (subst (AreCopies m.0 (suc (length items))) c.in-Some.ensures.items (subst (λ n. AreCopies m.0 n old) long m.1)) in
    let a = subst (λ n. AreOut n me.1) long inv.2 in let same : c.len-lane.result ≡ length items = search rules in let back = c.give_back.ensures.back in let most = inv.1 in (
      c.give_back.ensures.table ∙ inv.0,
      (omega arith),
      subst (AreOut (length items)) (sym (ap (λ x. x.1) back)) a.2,
      (m.0, last.0, subst (λ l. replay g.M.Machine.step c.args.common.now.key.value.machine l ≡ Some m.0) (sym (ap (λ x. x.0.seen) back)) m.2),
      ap (λ x. x.0) back ∙ (λ i. view_after_return (inv.4 i) (same i)),
    )
