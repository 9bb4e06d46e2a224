use Rattle.std.proofs.Common.{◌≡◌, ℕ, ◌-◌, ◌<◌, ◌≤◌, false, get_or}
use mathlib.Core.Option.{some}
use lib.ListN.{get_elem?}
use Rattle.std.specs.Mem.Slots.{slots_filled, slots_items, slots_len}
use Rattle.std.specs.Mem.Slots.Ownership.{Filled}
use Rattle.history_lock.proofs.close.close_table.Given as goal

abbrev pub invariant-loop-lane : goal.invariant-loop-lane
invariant-loop-lane g l = Filled (slots_filled l.closed.slots) l.lane (slots_len l.closed.slots) × ((k : ℕ) → k < l.lane → get_or (slots_filled l.closed.slots) k false ≡ false)
    × (slots_items l.closed.slots ≡ slots_items l.initial.closed.slots) × (slots_len l.closed.slots ≡ slots_len l.initial.closed.slots) × (l.lane ≤ slots_len l.closed.slots)
    × (0 < l.lane → get_elem? (slots_items l.closed.slots) (l.lane - 1) ≡ some l.lane_state)

abbrev pub decreases-loop-lane : goal.decreases-loop-lane
decreases-loop-lane g l = slots_len l.closed.slots - l.lane
