-- Records of work, by numbers.
use Rattle.std.specs.Prelude.{◌≡◌, ◌⊎◌, ◌<◌, ◌≤◌, ℕ, nat_lt, Bool, not, List, [], ◌∷◌, map, Option, Some, None}
use Rattle.std.specs.List.{list_all}
use Rattle.machines.specs.Refusals.{first_of, when}
use Rattle.machines.specs.declared.machine.Trouble.{Trouble}
use Rattle.machines.specs.declared.machine.Trouble.TheVariants as trouble
use Rattle.slice_ranges.specs.declared.key.TheConstants.{KEYS}
use Rattle.assignment.specs.Slices.{is_task}
use Rattle.load_ledger.specs.declared.error.LoadError.{LoadError}
use Rattle.load_ledger.specs.declared.error.LoadError.TheVariants.{WeightRange, TotalRange}
use Rattle.load_ledger.specs.declared.share.LoadRecord.{LoadRecord}
use Rattle.load_ledger.specs.declared.share.TheConstants.{MOST_TOTAL}
use Rattle.load_ledger.specs.Shares.{Share, is_weight}
use Rattle.c_calls.specs.declared.answer.Answer.{Answer}
use Rattle.c_calls.specs.declared.answer.Answer.TheVariants.{Load, NoMemory, WrongForm}
use Rattle.c_calls.specs.declared.loads.record_numbers.RecordNumbers.{RecordNumbers}

-- the record that numbers say
abbrev pub record_of : RecordNumbers → LoadRecord
record_of n = record { key = n.slice_key; weight = n.weight }

-- the share of a task that has these records
abbrev pub share_of : ℕ → List RecordNumbers → Share
share_of task records = record { task = task; records = map record_of records }

abbrev pub has_slice_key : RecordNumbers → Bool
has_slice_key n = nat_lt n.slice_key KEYS

abbrev pub has_weight : RecordNumbers → Bool
has_weight n = is_weight n.weight

-- why numbers say no share, if they say none: no task, no slice key, or a weight outside its limits
abbrev pub no_share : ℕ → List RecordNumbers → Option Answer
no_share task records = first_of (
    when (not (is_task task)) WrongForm ∷
    when (not (list_all has_slice_key records)) WrongForm ∷
    when (not (list_all has_weight records)) (Load WeightRange) ∷ [])

-- why records are not added up: their total is too large; or it is not, and memory ran out
abbrev pub IsUnadded : ℕ → Trouble LoadError → Type 0
IsUnadded total (trouble.Refused why) = (why ≡ TotalRange) × (MOST_TOTAL < total)
IsUnadded total trouble.NoMemory = total ≤ MOST_TOTAL

-- why there is no share: the numbers say none, or their total is too large; or else memory ran out
abbrev pub IsUnshared : Option Answer → ℕ → Answer → Type 0
IsUnshared (Some why) total answer = answer ≡ why
IsUnshared None total answer = ((answer ≡ Load TotalRange) × (MOST_TOTAL < total)) ⊎ ((answer ≡ NoMemory) × (total ≤ MOST_TOTAL))
