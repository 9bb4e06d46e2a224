-- The lines of calls whose callers were told other words than the machines answer.
use Rattle.std.specs.Prelude.{ℕ, List, [], ◌∷◌, ◌++◌, Option, Some, None, slice_get}
use Rattle.serde_json.specs.Data.{Data, object}
use Rattle.log_line.specs.declared.entry.LogEntry.{LogEntry}
use Rattle.log_trace.specs.declared.line.LogLine.{LogLine as Told}
use Rattle.reason_values.specs.declared.place.LogLine.{LogLine}
use Rattle.reason_values.specs.Lines.{line_text}
use Rattle.trace_ends.specs.Faults.{fault_data}
use Rattle.log_trace_text.specs.Calls.{no_warnings, told_call_data}

-- the line of a fault: the members of a call, and the words that its caller was told
abbrev pub fault_text : List ℕ → Data → List ℕ
fault_text words (object members) = line_text (fault_data words members)
fault_text words d = []

-- of a wrong reply, which is that of the entry at its index
abbrev pub fault_line : List LogLine → List LogEntry → Told → Option LogEntry → List ℕ
fault_line places entries line None = []
fault_line places entries line (Some entry) = fault_text entry.line.reply (told_call_data places entries entry line no_warnings)

abbrev pub fault_lines : List LogLine → List LogEntry → List Told → List ℕ
fault_lines places entries [] = []
fault_lines places entries (line ∷ more) = fault_line places entries line (slice_get entries line.index) ++ fault_lines places entries more
