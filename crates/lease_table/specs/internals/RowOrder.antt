-- Stored rows in the order of their grants.
use Rattle.std.specs.Prelude.{ℕ, zero, suc, ◌<◌, ◌≤◌, nat_le, List, [], ◌∷◌, Option, Some, None, if◌then◌else◌, ⊤}
use Rattle.std.specs.List.{AllByRecursion}
use Rattle.std.specs.Map.{values_of}
use Rattle.grants.specs.declared.values.Row.{Row}
use Rattle.lease_table.specs.declared.holders.Holders.{Holders}
use Rattle.lease_table.specs.internals.Holders.{AreListed}
use Rattle.lease_table.specs.internals.RowKeys.{IsKeyed}

-- each row comes before all later ones in an order
abbrev pub AllRise : (Row → Row → Type 0) → List Row → Type 0
AllRise Before [] = ⊤
AllRise Before (row ∷ rows) = AllByRecursion (λ later. Before row later) rows × AllRise Before rows

-- generations never fall from a row to the next
abbrev pub GenerationsRise : List Row → Type 0
GenerationsRise rows = AllRise (λ row later. row.generation ≤ later.generation) rows

-- numbers rise from each row to the next
abbrev pub NumbersRise : List Row → Type 0
NumbersRise rows = AllRise (λ row later. row.number < later.number) rows

-- a row, if its generation is up to this one
abbrev pub if_up_to : ℕ → Option Row → Option Row
if_up_to generation None = None
if_up_to generation (Some row) = if nat_le row.generation generation then Some row else None

-- there are this many rows, and the first of them, this many, have ended at a reading
abbrev pub HaveEnded : ℕ → ℕ → List Row → Type 0
HaveEnded zero at rows = ⊤
HaveEnded (suc count) at [] = ⊥
HaveEnded (suc count) at (row ∷ rows) = (row.table_ends ≤ at) × HaveEnded count at rows

-- each row lies under its number, numbers rise, generations never fall, the first rows have ended at a
-- reading, and the rows that were not freed are listed by their holders
pub record AreInOrder (entries : List (ℕ × Row)) (holders : Holders) (count at : ℕ) : Type 0 where
  pub keyed : IsKeyed entries
  pub numbers : NumbersRise (values_of entries)
  pub rising : GenerationsRise (values_of entries)
  pub ended : HaveEnded count at (values_of entries)
  pub listed : AreListed holders (values_of entries)
