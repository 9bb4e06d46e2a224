-- What all tasks did together.
use Rattle.std.specs.Prelude.{ℕ, ◌+◌, ◌-◌, ◌==◌, nat_lt, List, [], ◌∷◌, map, filter, sum, sum_by, slice_index, Option, Result, Ok, Err}
use Rattle.std.specs.List.{flat_map}
use Rattle.machines.specs.Refusals.{when, answer}
use Rattle.machines.specs.declared.machine.Trouble.{Trouble}
use Rattle.assignment.specs.declared.slice.Slice.{Slice}
use Rattle.assignment.specs.Owners.{tasks}
use Rattle.load_ledger.specs.declared.share.LoadRecord.{LoadRecord}
use Rattle.load_ledger.specs.declared.share.TheConstants.{MOST_TOTAL}
use Rattle.load_ledger.specs.declared.error.LoadError.{LoadError}
use Rattle.load_ledger.specs.declared.error.LoadError.TheVariants.{TotalRange}
use Rattle.load_ledger.specs.declared.book.Ungathered.{Ungathered}
use Rattle.load_ledger.specs.Shares.{Share, share_total}
use Rattle.load_ledger.specs.Loads.{slice_loads}

-- the records of shares, one share after another
abbrev pub records_of : List Share → List LoadRecord
records_of shares = flat_map (λ s. s.records) shares

-- the weights of all shares
abbrev pub shares_total : List Share → ℕ
shares_total shares = sum_by share_total shares

-- the weights of the shares of a task
unfoldable pub weight_of : ℕ → List Share → ℕ
weight_of task shares = shares_total (filter (λ s. s.task == task) shares)

-- the total of a task in a book, which has one for each task in the order of their numbers
abbrev pub task_total : List ℕ → ℕ → ℕ
task_total book task = slice_index book (task - 1)

-- a book after shares were gathered
abbrev pub book_with : List Share → List ℕ → List ℕ
book_with shares book = map (λ task. task_total book task + weight_of task shares) tasks

-- the refusal of a gather
abbrev pub gather_checks : List Share → List ℕ → List (Option LoadError)
gather_checks shares book = when (nat_lt MOST_TOTAL (sum book + shares_total shares)) TotalRange ∷ []

-- shares are gathered over slices: the book counts them, and the load of each slice is answered
abbrev pub gather_step : List Share → List Slice → List ℕ → Result (List ℕ × List ℕ) LoadError
gather_step shares slices book = answer (gather_checks shares book) (book_with shares book, slice_loads slices (records_of shares))

-- the book after gathers of these shares: the total of each task is the sum of all weights in its shares
abbrev pub book_of : List (List Share) → List ℕ
book_of gathers = map (λ task. sum_by (weight_of task) gathers) tasks

-- the answer of a gather, without the shares that are handed back
abbrev pub without_shares : Result (List ℕ) Ungathered → Result (List ℕ) (Trouble LoadError)
without_shares (Ok loads) = Ok loads
without_shares (Err refused) = Err refused.why
