use Rattle.std.proofs.Common.{◌≡◌, ◌++◌, map, take}
use Rattle.audit.specs.OneRun.{record_turn}
use Rattle.audit.specs.Shown.{turn_of}
use Rattle.audit.proofs.points.add_records.Given as goal

-- the records so far were added
abbrev pub invariant-loop-record : goal.invariant-loop-record
invariant-loop-record l = map turn_of l.points.items ≡ map turn_of l.initial.points.items ++ map record_turn (take l.record-index l.records)
