use Rattle.std.proofs.Common.{◌≡◌, map, take}
use Rattle.log_trace_text.specs.Endings.{reading_of}
use Rattle.log_trace_text.proofs.untimely.readings_of.Given as goal

abbrev pub invariant-loop-entry : goal.invariant-loop-entry
invariant-loop-entry l = l.readings.items ≡ map reading_of (take l.entry-index l.entries)
