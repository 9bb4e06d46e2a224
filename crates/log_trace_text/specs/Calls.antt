-- The lines of calls: each call with its place and ticket, its reply, and what is told of it.
use Rattle.std.specs.Prelude.{ℕ, ◌+◌, List, [], ◌∷◌, ◌++◌, drop, length, Option, Some, None, slice_get}
use Rattle.serde_json.specs.Data.{Data}
use Rattle.reasons.specs.declared.reason.Reason.{Reason}
use Rattle.log_line.specs.declared.entry.LogEntry.{LogEntry}
use Rattle.log_trace.specs.declared.line.LogLine.{LogLine as Told}
use Rattle.log_causes.specs.declared.cause.Unsent.{Unsent as Found}
use Rattle.reply_values.specs.declared.answered.Warnings.{Warnings}
use Rattle.reply_values.specs.Answered.{answered_data}
use Rattle.call_values.specs.Calls.{call_data}
use Rattle.call_values.specs.Told.{told_data}
use Rattle.reason_values.specs.declared.place.LogLine.{LogLine}
use Rattle.reason_values.specs.Lines.{line_text}
use Rattle.reason_values.specs.Reasons.{reason_data}
use Rattle.reason_values.specs.Unsent.{unsent_data}
use Rattle.log_trace_text.specs.Places.{with_place_in}
use Rattle.log_trace_text.specs.Unsent.{unsent_of}

-- the number of the call at an index, if there is one
abbrev pub number_if : ℕ → Option LogEntry → Option ℕ
number_if index None = None
number_if index (Some entry) = Some (index + 1)

abbrev pub number_of : List LogEntry → Option ℕ → Option ℕ
number_of entries None = None
number_of entries (Some index) = number_if index (slice_get entries index)

-- why nothing sent what a call delivers; else what decides the reply, where the call and the reply do not say it all
abbrev pub decided_data : List LogLine → List LogEntry → Option Found → Option ℕ → Option Reason → Option Data
decided_data places entries (Some found) first reason = Some (unsent_data places (unsent_of entries found))
decided_data places entries None first None = None
decided_data places entries None first (Some reason) = reason_data places (number_of entries first) reason

-- a call with its place and its ticket, and with its reply and what decides it, where there are these, and what it is warned of
abbrev pub placed_data : List LogLine → ℕ → LogEntry → Option Data → Option Data → Warnings → Data
placed_data places call entry reply why warnings = with_place_in places call
    (answered_data (call_data entry.line.call) (Some entry.line.ticket) reply why warnings)

abbrev pub no_warnings : Warnings
no_warnings = record { untimely = None; not_owner = None }

abbrev pub warnings_of : Told → Warnings
warnings_of line = record { untimely = line.untimely; not_owner = line.not_owner }

-- a call whose reply is told
abbrev pub told_call_data : List LogLine → List LogEntry → LogEntry → Told → Warnings → Data
told_call_data places entries entry line warnings = placed_data places (line.index + 1) entry (Some (told_data line.reply))
    (decided_data places entries line.unsent line.first_taking line.reason) warnings

-- a call whose reply is not told, as those from the first fault on
abbrev pub untold_call_data : List LogLine → ℕ → LogEntry → Data
untold_call_data places call entry = placed_data places call entry None None no_warnings

-- the line of a call whose reply is told, which is that of the entry at its index
abbrev pub told_line : List LogLine → List LogEntry → Told → Option LogEntry → List ℕ
told_line places entries line None = []
told_line places entries line (Some entry) = line_text (told_call_data places entries entry line (warnings_of line))

abbrev pub told_lines : List LogLine → List LogEntry → List Told → List ℕ
told_lines places entries [] = []
told_lines places entries (line ∷ more) = told_line places entries line (slice_get entries line.index) ++ told_lines places entries more

-- the lines of calls whose replies are not told, of which so many stand before them
abbrev pub untold_lines : List LogLine → ℕ → List LogEntry → List ℕ
untold_lines places before [] = []
untold_lines places before (entry ∷ more) = line_text (untold_call_data places (before + 1) entry) ++ untold_lines places (before + 1) more

-- a line for each call: those whose replies are told, and then the others
abbrev pub call_lines : List LogLine → List LogEntry → List Told → List ℕ
call_lines places entries told = told_lines places entries told ++ untold_lines places (length told) (drop (length told) entries)
