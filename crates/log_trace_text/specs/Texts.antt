-- The lines of a trace of logs between its first and its last one.
use Rattle.std.specs.Prelude.{◌≡◌, ◌&&◌, ℕ, Bool, true, false, List, [], length, take, ◌++◌, Option, Some, None, is_none, option_map, if◌then◌else◌}
use Rattle.cluster.specs.continued.Jobs.{Continued}
use Rattle.job_calls.specs.Jobs.{Job}
use Rattle.log_line.specs.declared.entry.LogEntry.{LogEntry}
use Rattle.log_run.specs.declared.start.Start.{Start}
use Rattle.log_causes.specs.declared.finding.Finding.{Finding}
use Rattle.log_causes.specs.declared.finding.Finding.TheVariants.{One, Double, Other}
use Rattle.log_trace.specs.declared.line.LogLine.{LogLine as Told}
use Rattle.log_trace.specs.declared.serving.LogServing.{LogServing}
use Rattle.log_trace.specs.declared.trace.LogTrace.{LogTrace}
use Rattle.log_trace.specs.Serving.{IsServing}
use Rattle.log_trace.specs.Traces.{IsTraceOf}
use Rattle.reason_values.specs.declared.place.LogLine.{LogLine}
use Rattle.trace_text.specs.Ends.{handle_lines, stretch_lines}
use Rattle.log_trace_text.specs.declared.played.Played.{Played}
use Rattle.log_trace_text.specs.Calls.{call_lines}
use Rattle.log_trace_text.specs.Faults.{fault_lines}

-- WHAT IS PLAYED

-- the machines play the calls for their lines, or to find the faults; not if two have one ticket
abbrev pub is_played : Finding → Bool → Bool
is_played (One steps late) with_calls = with_calls
is_played (Double first second) with_calls = false
is_played (Other index wanted held cause) with_calls = true

abbrev pub IsTracedIf : Bool → Continued → List LogEntry → Option LogTrace → Type 0
IsTracedIf true job entries (Some trace) = IsTraceOf job entries trace
IsTracedIf true job entries None = ⊥
IsTracedIf false job entries trace = trace ≡ None

-- stretches and handles are told with the calls, but not of logs that go on from others
abbrev pub is_served : Start → Bool → Bool
is_served start with_calls = with_calls && is_none start.earlier

-- they are those of the calls before the first fault
abbrev pub IsServedIf : Option LogTrace → Bool → Job → List LogEntry → Option ℕ → Option LogServing → Type 0
IsServedIf None told job entries key serving = serving ≡ None
IsServedIf (Some trace) false job entries key serving = serving ≡ None
IsServedIf (Some trace) true job entries key (Some serving) = IsServing job (take (length trace.lines.items) entries) key serving
IsServedIf (Some trace) true job entries key None = ⊥

-- what is told of the calls of logs of which this was found
pub record ArePlayed (job : Continued) (start : Start) (entries : List LogEntry) (finding : Finding) (key : Option ℕ) (with_calls : Bool)
    (played : Played) : Type 0 where
  pub trace : IsTracedIf (is_played finding with_calls) job entries played.trace
  pub serving : IsServedIf played.trace (is_served start with_calls) start.job entries key played.serving

-- THE LINES OF IT

-- the calls whose replies are told, and the faults
abbrev pub right_of : Option LogTrace → List Told
right_of None = []
right_of (Some trace) = trace.lines.items

abbrev pub wrong_of : Option LogTrace → List Told
wrong_of None = []
wrong_of (Some trace) = trace.faults.items

-- the lines of the calls, if they are wanted
abbrev pub called_lines : List LogLine → List LogEntry → Bool → Option LogTrace → List ℕ
called_lines places entries with_calls trace = if with_calls then call_lines places entries (right_of trace) else []

-- those of stretches and handles
abbrev pub serving_lines : Option LogServing → List ℕ
serving_lines None = []
serving_lines (Some serving) = stretch_lines (option_map (λ tasks. tasks.items) serving.stretches) ++ handle_lines serving.handles

-- of calls, stretches, handles and faults
abbrev pub lines_between : List LogLine → List LogEntry → Bool → Played → List ℕ
lines_between places entries with_calls played = called_lines places entries with_calls played.trace
    ++ serving_lines played.serving ++ fault_lines places entries (wrong_of played.trace)
