use Rattle.std.proofs.Common.{◌≡◌, ◌+◌}
use Rattle.history_lock.specs.internals.Seats.{HasClaimed}
use Rattle.history_lock.proofs.steps.claim_all.Given as goal

abbrev pub invariant-loop-next : goal.invariant-loop-next
invariant-loop-next g l = (l.seat.table_id ≡ l.initial.seat.table_id) × HasClaimed g.M.Machine.step l.common.key.value l.initial.seat.me.0 l.next (l.lane + 2) l.seat.me
