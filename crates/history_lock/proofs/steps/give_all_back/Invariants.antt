use Rattle.std.proofs.Common.{◌≡◌, ◌≤◌}
use Rattle.history_lock.specs.Rule.{view_after_return}
use Rattle.history_lock.specs.internals.Seats.{IsHolding, HaveLaneStates}
use Rattle.history_lock.proofs.steps.give_all_back.Given as goal

abbrev pub invariant-loop-left : goal.invariant-loop-left
invariant-loop-left g l = (l.seat.table_id ≡ l.initial.seat.table_id) × (l.left ≤ l.initial.lanes) × IsHolding l.seat.me.0 l.left l._word
    × HaveLaneStates g.M.Machine.step l.common.key.value l.seat.me.0.seen l.left l.seat.me.1 × (l.seat.me.0 ≡ view_after_return l.initial.seat.me.0 l.seat.me.0.end)

abbrev pub decreases-loop-left : goal.decreases-loop-left
decreases-loop-left g l = l.left
