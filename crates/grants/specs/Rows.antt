-- Rows of grants.
use Rattle.std.specs.Prelude.{ℕ, ◌==◌, ◌&&◌, Bool, not, nat_lt, nat_le, List, filter, find, Option}
use Rattle.lease_rule.specs.Leases.{same_kind}
use Rattle.grants.specs.declared.values.Grant.{Grant}
use Rattle.grants.specs.declared.values.Row.{Row}
use Rattle.grants.specs.declared.values.ReleaseNote.{ReleaseNote}

-- a row runs at a reading below the table's deadline
abbrev pub runs_at : ℕ → Row → Bool
runs_at at row = nat_lt at row.table_ends

-- the rows that run at a reading
abbrev pub running_rows : ℕ → List Row → List Row
running_rows at rows = filter (runs_at at) rows

-- a note closes the rows of its task, life and kind up to its number
abbrev pub closes : ReleaseNote → Row → Bool
closes note row = note.task == row.task && note.life == row.life && same_kind note.kind row.kind && nat_le row.number note.number

-- the rows that a note leaves open
abbrev pub rows_left_open : ReleaseNote → List Row → List Row
rows_left_open note rows = filter (λ row. not (closes note row)) rows

-- the first row of a generation up to this one that runs at a reading
abbrev pub first_up_to : ℕ → ℕ → List Row → Option Row
first_up_to generation at rows = find (λ row. nat_le row.generation generation && runs_at at row) rows

-- the row of a grant
abbrev pub row_of : Grant → Row
row_of grant = record {
  number = grant.number;
  task = grant.task;
  life = grant.life;
  kind = grant.lease.kind;
  generation = grant.lease.generation;
  table_ends = grant.table_ends;
}
