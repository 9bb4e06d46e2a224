-- Rows of grants as numbers.
use Rattle.grants.specs.declared.values.Row.{Row}
use Rattle.c_calls.specs.Details.{kind_number}
use Rattle.c_calls.specs.declared.tables.row_numbers.RowNumbers.{RowNumbers}

-- the numbers of a row
abbrev pub row_numbers : Row → RowNumbers
row_numbers row = record {
  number = row.number;
  task = row.task;
  life = row.life;
  kind = kind_number row.kind;
  generation = row.generation;
  table_ends = row.table_ends;
}
