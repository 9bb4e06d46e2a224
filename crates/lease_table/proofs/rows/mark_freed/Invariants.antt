use Rattle.std.proofs.Common.{◌≡◌, drop}
use Rattle.lease_table.specs.internals.Holders.{entries_freed}
use Rattle.lease_table.proofs.rows.mark_freed.Given as goal

abbrev pub invariant-loop-row : goal.invariant-loop-row
invariant-loop-row l = entries_freed (drop l.row-index l.rows) l.map.entries ≡ entries_freed l.rows l.fn.map.entries
