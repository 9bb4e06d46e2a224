use Rattle.std.proofs.Common.{◌≡◌, ◌+◌, ◌≤◌, List, ◌++◌, length, take, drop}
use Rattle.std.specs.Prelude.{All}
use Rattle.load_ledger.specs.declared.share.LoadRecord.{LoadRecord}
use Rattle.load_ledger.specs.declared.share.TheConstants.{MOST_TOTAL}
use Rattle.load_ledger.specs.Shares.{total_weight}
use Rattle.load_ledger.specs.Loads.{slice_loads}
use Rattle.load_ledger.proofs.loads.add_records.Given as goal

abbrev pub invariant-loop-record : goal.invariant-loop-record
invariant-loop-record l = record {
  each : length l.loads ≡ length l.slices;
  small : All (λ load. load + total_weight (drop l.record-index l.records) ≤ MOST_TOTAL) l.loads;
  loads : (before : List LoadRecord) → l.initial.loads ≡ slice_loads l.slices before → l.loads ≡ slice_loads l.slices (before ++ take l.record-index l.records);
}
