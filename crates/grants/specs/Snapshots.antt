-- The values of a running table with its rows.
use Rattle.std.specs.Prelude.{ℕ, ◌&&◌, Bool, true, not, nat_lt, nat_le, List, [], ◌∷◌, Option, option_map}
use Rattle.std.specs.List.{list_all}
use Rattle.std.specs.Option.{option_or}
use Rattle.machines.specs.Refusals.{when, first_of}
use Rattle.grants.specs.declared.kept.Kept.{Kept}
use Rattle.grants.specs.declared.snapshot.SnapshotFault.{SnapshotFault}
use Rattle.grants.specs.declared.snapshot.SnapshotFault.TheVariants as fault
use Rattle.grants.specs.declared.snapshot.TableSnapshot.{TableSnapshot}
use Rattle.grants.specs.declared.values.Row.{Row}
use Rattle.grants.specs.Assignments.{generation_of}
use Rattle.grants.specs.KeptValues.{kept_checks}
use Rattle.grants.specs.Policies.{Terms}

-- numbers rise from row to row: they are above this one, and up to the most
abbrev pub numbers_rise : ℕ → ℕ → List Row → Bool
numbers_rise before most [] = true
numbers_rise before most (row ∷ rows) = nat_lt before row.number && nat_le row.number most && numbers_rise row.number most rows

-- generations never fall from row to row: they are this one or above it, and up to the newest
abbrev pub generations_rise : ℕ → ℕ → List Row → Bool
generations_rise before newest [] = true
generations_rise before newest (row ∷ rows) = nat_le before row.generation && nat_le row.generation newest && generations_rise row.generation newest rows

-- the newest generation: the proposed one, or else the committed one
abbrev pub newest_in : Kept → ℕ
newest_in k = generation_of (option_or k.pending k.committed)

-- a row runs at a reading, and ends at a deadline or before it
abbrev pub ends_between : ℕ → ℕ → Row → Bool
ends_between last deadline row = nat_lt last row.table_ends && nat_le row.table_ends deadline

-- why the values and rows are those of no table of this policy
abbrev pub snapshot_checks : Terms → TableSnapshot → List (Option SnapshotFault)
snapshot_checks policy s =
    option_map fault.Kept (first_of (kept_checks policy s.kept)) ∷
    when (nat_lt s.kept.deadline s.grace) fault.Grace ∷
    when (not (numbers_rise 0 s.kept.granted s.rows.items)) fault.RowNumber ∷
    when (not (generations_rise 0 (newest_in s.kept) s.rows.items)) fault.RowGeneration ∷
    when (not (list_all (ends_between s.kept.last s.kept.deadline) s.rows.items)) fault.RowEnd ∷ []
