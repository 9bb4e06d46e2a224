use Rattle.std.proofs.Common.{◌≡◌, ◌≤◌, length, Some, vec_len}
use Rattle.history_lock.specs.Histories.{replay}
use Rattle.history_lock.specs.Rule.{view_after_return}
use Rattle.history_lock.specs.internals.Seats.{AreOut, AreCopies}
use Rattle.history_lock.proofs.turn.spread.Given as goal

abbrev pub invariant-loop-machine : goal.invariant-loop-machine
invariant-loop-machine g l = (l.seat.table_id ≡ l.initial.seat.table_id) × (length l.machines.items ≤ l.initial._lanes) × AreOut (length l.machines.items) l.seat.me.1
    × ((machine : g.row.M.Denot) × AreCopies machine (length l.machines.items) l.machines.items × (replay g.M.Machine.step l.common.key.value.machine l.seat.me.0.seen ≡ Some machine)) × (l.seat.me.0 ≡ view_after_return l.initial.seat.me.0 (length l.machines.items))

abbrev pub decreases-loop-machine : goal.decreases-loop-machine
decreases-loop-machine g l = vec_len l.machines
