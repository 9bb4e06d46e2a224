-- The loads of slices.
use Rattle.std.specs.Prelude.{ℕ, ◌==◌, Bool, false, List, map, filter}
use Rattle.std.specs.Option.{option_map_or}
use Rattle.assignment.specs.declared.slice.Slice.{Slice}
use Rattle.assignment.specs.Owners.{slice_at}
use Rattle.load_ledger.specs.declared.share.LoadRecord.{LoadRecord}
use Rattle.load_ledger.specs.Shares.{total_weight}

-- whether a key is in a slice of the list: the slice of the key starts where this one does
unfoldable pub is_in : List Slice → Slice → ℕ → Bool
is_in slices slice key = option_map_or (λ s. s.start == slice.start) (slice_at slices key) false

-- the load of a slice: the weights of all records whose key is in it
unfoldable pub slice_load : List Slice → List LoadRecord → Slice → ℕ
slice_load slices records slice = total_weight (filter (λ r. is_in slices slice r.key) records)

-- the load of each slice
abbrev pub slice_loads : List Slice → List LoadRecord → List ℕ
slice_loads slices records = map (slice_load slices records) slices
