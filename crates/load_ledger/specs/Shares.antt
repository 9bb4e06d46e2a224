-- What one task counts.
use Rattle.std.specs.Prelude.{ℕ, ◌+◌, Bool, ◌&&◌, not, nat_lt, nat_le, List, [], ◌∷◌, ◌++◌, Option, Result, sum_by}
use Rattle.machines.specs.Refusals.{when, answer}
use Rattle.load_ledger.specs.declared.share.LoadRecord.{LoadRecord}
use Rattle.load_ledger.specs.declared.share.TheConstants.{MOST_WEIGHT, MOST_TOTAL}
use Rattle.load_ledger.specs.declared.error.LoadError.{LoadError}
use Rattle.load_ledger.specs.declared.error.LoadError.TheVariants.{WeightRange, TotalRange}

-- a task, and the records of the work that it did, in their order
pub record Share : Type 0 where
  pub task : ℕ
  pub records : List LoadRecord

-- the sum of the weights
abbrev pub total_weight : List LoadRecord → ℕ
total_weight records = sum_by (λ r. r.weight) records

abbrev pub share_total : Share → ℕ
share_total share = total_weight share.records

-- whether a record may have this weight
abbrev pub is_weight : ℕ → Bool
is_weight weight = nat_le 1 weight && nat_le weight MOST_WEIGHT

-- the refusals of a record, in their order
abbrev pub add_checks : ℕ → Share → List (Option LoadError)
add_checks weight share =
    when (not (is_weight weight)) WeightRange ∷
    when (nat_lt MOST_TOTAL (share_total share + weight)) TotalRange ∷ []

-- a share with one record more
abbrev pub with_record : ℕ → ℕ → Share → Share
with_record key weight share = record share { records = share.records ++ record { key = key; weight = weight } ∷ [] }

-- a record is added to a share, and the new total is answered
abbrev pub add_step : ℕ → ℕ → Share → Result (Share × ℕ) LoadError
add_step key weight share = answer (add_checks weight share) (with_record key weight share, share_total share + weight)
