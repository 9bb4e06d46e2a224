-- Rows that were freed, and the rows of each holder.
use Rattle.std.specs.Prelude.{◌≡◌, ℕ, ◌==◌, Bool, true, false, List, [], ◌∷◌, filter, map}
use Rattle.std.specs.Option.{option_map_or}
use Rattle.std.specs.List.{list_any}
use Rattle.indexmap.specs.IndexMap.{get}
use Rattle.lease_table.specs.contracts.holders.HolderPartialEq.TheImpl as holder_equality
use Rattle.lease_table.specs.declared.holders.Holder.{Holder}
use Rattle.lease_table.specs.declared.holders.Holders.{Holders}
use Rattle.grants.specs.declared.values.ReleaseNote.{ReleaseNote}
use Rattle.grants.specs.declared.values.Row.{Row}
use Rattle.grants.specs.Rows.{closes, running_rows}

-- the holder of a row, and the one that a note is of
abbrev pub holder_of : Row → Holder
holder_of row = record { task = row.task; life = row.life; kind = row.kind }

abbrev pub holder_in : ReleaseNote → Holder
holder_in note = record { task = note.task; life = note.life; kind = note.kind }

-- the equality of holders
abbrev pub same_holder : Holder → Holder → Bool
same_holder a b = (holder_equality.ghosts).eq a b

-- a holder holds a row
abbrev pub holds : Holder → Row → Bool
holds holder row = same_holder (holder_of row) holder

-- the rows in the list of a holder
abbrev pub rows_held : Holders → Holder → List Row
rows_held holders holder = option_map_or (λ rows. rows.items) (get same_holder holders.lists holder) []

-- a freed row stays until the next sweep, as one that has ended at each reading
abbrev pub freed_if : Bool → Row → Row
freed_if true row = record row { table_ends = 0 }
freed_if false row = row

abbrev pub rows_freed : ReleaseNote → List Row → List Row
rows_freed note rows = map (λ row. freed_if (closes note row) row) rows

-- the rows that were not freed
abbrev pub unfreed : List Row → List Row
unfreed rows = running_rows 0 rows

-- the list of each holder has its rows that were not freed
abbrev pub AreListed : Holders → List Row → Type 0
AreListed holders rows = (holder : Holder) → rows_held holders holder ≡ filter (holds holder) (unfreed rows)

-- a row of this number is among these
abbrev pub is_numbered : List Row → ℕ → Bool
is_numbered rows number = list_any (λ row. row.number == number) rows

-- the entries, of which those of one number, or of the numbers of these rows, are freed
abbrev pub entry_freed : ℕ → List (ℕ × Row) → List (ℕ × Row)
entry_freed number entries = map (λ e. (e.0, freed_if (number == e.0) e.1)) entries

abbrev pub entries_freed : List Row → List (ℕ × Row) → List (ℕ × Row)
entries_freed [] entries = entries
entries_freed (row ∷ rows) entries = entries_freed rows (entry_freed row.number entries)
