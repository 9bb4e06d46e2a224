use Rattle.std.proofs.Common.{◌≡◌, take}
use Rattle.c_calls.specs.LoadRecords.{share_of}
use Rattle.c_calls.proofs.loads.record_numbers.added.Given as goal

abbrev pub invariant-loop-record : goal.invariant-loop-record
invariant-loop-record l = l.share ≡ share_of l.fn.task (take l.record-index l.records)
