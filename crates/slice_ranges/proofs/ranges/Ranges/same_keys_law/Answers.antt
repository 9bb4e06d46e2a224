use Rattle.slice_ranges.proofs.Uniqueness.{same_ranges}
use Rattle.slice_ranges.proofs.ranges.Ranges.same_keys_law.Goals as goal

pub returns : goal.returns
returns c = rw (← c.first.view_is, ← c.second.view_is) (same_ranges _ _ c.first.invariant c.second.invariant)
