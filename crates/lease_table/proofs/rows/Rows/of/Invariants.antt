use Rattle.std.proofs.Common.{◌≡◌, take}
use Rattle.lease_table.proofs.rows.Rows.of.Given as goal

abbrev pub invariant-loop-row : goal.invariant-loop-row
invariant-loop-row l = l.made ≡ take l.row-index l.rows
