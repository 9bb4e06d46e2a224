use Rattle.std.proofs.Common.{◌-◌, ◌<◌}
use Rattle.history_lock.specs.internals.Seats.{IsBlank}
use Rattle.history_lock.proofs.open.blank.Given as goal

abbrev pub invariant-loop-done : goal.invariant-loop-done
invariant-loop-done g l = (0 < l.done) × IsBlank l.fn.machine (l.done - 1) l.slots.items
