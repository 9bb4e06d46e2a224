use Rattle.std.proofs.Common.{◌≡◌, map, take}
use Rattle.c_calls.specs.tables.Rows.{row_numbers}
use Rattle.c_calls.proofs.tables.row_numbers.numbers_of.Given as goal

abbrev pub invariant-loop-row : goal.invariant-loop-row
invariant-loop-row l = l.numbers.items ≡ map row_numbers (take l.row-index l.rows)
