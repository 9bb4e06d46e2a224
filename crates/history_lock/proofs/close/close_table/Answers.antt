use Rattle.std.proofs.Common.{rules, arith, ◌≡◌, ◌-◌, Some, refl, sym, ap, ◌∙◌, subst}
use mathlib.Core.Option.{some-injective}
use lib.ListN.{get_elem?}
use Rattle.std.specs.Option.{IsSome}
use Rattle.std.specs.Mem.Slots.{slots_counts}
use Rattle.history_lock.specs.internals.Gathering.{IsEnd}
use Rattle.history_lock.proofs.Ends.{ends}
use Rattle.history_lock.proofs.close.close_table.Goals as goal

pub unwrap-requires : goal.unwrap-requires
unwrap-requires g c = let p = c.args.seat in let inv = c.loop-lane.invariant in let last = c.loop-lane.lane - 1 in let counts = c.close_with-closed.ensures.counts in
    let deep = slots_counts c.close_with-closed.result.slots in let slots = c.requires.table.1 in let some = c.requires.table.2 in let long = counts.1 in let same = inv.3 in let most = inv.4 in let over = c.loop-lane-test.false in let count = c.slot_count.ensures in
    let size = deep.0 in
    let t = ends g.M.Machine.step c.args.lane_table.shared.key.value p.id c.args._lane last p.me.0 _ _ c.requires.seat.role c.requires.seat.idle c.requires.all (omega arith) (omega arith) c.close_with-closed.ensures.values.2 in
    let is = some-injective c.loop-lane.lane_state (Some t.0) (sym (inv.5 (omega arith)) ∙ (ap (λ l. get_elem? l last) inv.2 ∙ t.1)) in subst IsSome (sym is) refl

pub returns : goal.returns
returns g c = let p = c.args.seat in let inv = c.loop-lane.invariant in let last = c.loop-lane.lane - 1 in let counts = c.close_with-closed.ensures.counts in
    let deep = slots_counts c.close_with-closed.result.slots in let slots = c.requires.table.1 in let some = c.requires.table.2 in let long = counts.1 in let same = inv.3 in let most = inv.4 in let over = c.loop-lane-test.false in let count = c.slot_count.ensures in
    let size = deep.0 in
    let t = ends g.M.Machine.step c.args.lane_table.shared.key.value p.id c.args._lane last p.me.0 _ _ c.requires.seat.role c.requires.seat.idle c.requires.all (omega arith) (omega arith) c.close_with-closed.ensures.values.2 in
    let is = some-injective c.loop-lane.lane_state (Some t.0) (sym (inv.5 (omega arith)) ∙ (ap (λ l. get_elem? l last) inv.2 ∙ t.1)) in let one : t.0 ≡ c.unwrap.result = search rules in
    subst (IsEnd g.M.Machine.step c.args.lane_table.shared.key.value _) one t.2
