use Rattle.std.proofs.Common.{◌≡◌, ◌+◌, ℕ, take}
use Rattle.load_ledger.specs.Shares.{share_total}
use Rattle.c_calls.specs.LoadRecords.{share_of}
use Rattle.c_calls.proofs.loads.record_numbers.are_above.Given as goal

abbrev pub invariant-loop-record : goal.invariant-loop-record
invariant-loop-record l = (task : ℕ) → l.left + share_total (share_of task (take l.record-index l.records)) ≡ l.most
