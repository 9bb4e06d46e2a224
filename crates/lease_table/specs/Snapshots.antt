-- The values of a running table with its rows, and the table built again from them.
use Rattle.std.specs.Prelude.{◌≡◌}
use Rattle.grants.specs.declared.snapshot.TableSnapshot.{TableSnapshot}
use Rattle.lease_table.specs.KeptValues.{kept_of, restored_from}
use Rattle.lease_table.specs.Tables.{Standing}

-- the values of a table, and its rows
pub record IsSnapshotOf (t : Standing) (s : TableSnapshot) : Type 0 where
  pub kept : s.kept ≡ kept_of t
  pub grace : s.grace ≡ t.grace
  pub rows : s.rows.items ≡ t.rows

-- the table that has these values and these rows
abbrev pub resumed_from : TableSnapshot → Standing
resumed_from s = record (restored_from s.kept) { grace = s.grace; rows = s.rows.items }
