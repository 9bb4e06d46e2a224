-- The text of the trace of a script.
use Rattle.std.specs.Prelude.{◌≡◌, ℕ, ◌+◌, List, ◌∷◌, ◌++◌, length, map, Option, option_map, MatchOption}
use Rattle.slice_ranges.specs.Hash.{slice_key}
use Rattle.job_calls.specs.declared.timing.Reading.{Reading}
use Rattle.job_calls.specs.declared.timing.Reading.TheVariants.{TableClock}
use Rattle.reasons.specs.declared.untimely.UntimelyReadings.{UntimelyReadings}
use Rattle.reasons.specs.Untimely.{AreTimely, IsFirstUntimely}
use Rattle.world.specs.Jobs.{Job}
use Rattle.world.specs.Pasts.{reading}
use Rattle.world.specs.declared.step.Step.{Step}
use Rattle.script_trace.specs.declared.trace.ScriptTrace.{ScriptTrace}
use Rattle.script_trace.specs.Traces.{IsTraceOf}
use Rattle.reason_values.specs.Lines.{line_text}
use Rattle.trace_ends.specs.Ends.{script_end_data}
use Rattle.trace_ends.specs.Heads.{script_head_data}
use Rattle.trace_text.specs.Calls.{call_lines}
use Rattle.trace_text.specs.Ends.{handle_lines, stretch_lines}

-- what the steps read, the first step first; the clock of a table stands at 0 before them
abbrev pub readings_of : List Step → List Reading
readings_of steps = TableClock 0 ∷ map reading steps

-- the steps are timely, or these are the readings by which they are not
abbrev pub AreUntimelyOf : ℕ → List Step → Option UntimelyReadings → Type 0
AreUntimelyOf skew steps untimely =
    MatchOption untimely (AreTimely skew (readings_of steps) (length steps + 1)) (IsFirstUntimely skew (readings_of steps))

-- the lines of a trace, of which some readings are not timely
abbrev pub lines_of : Job → Option (List ℕ) → List Step → ScriptTrace → Option UntimelyReadings → List ℕ
lines_of job key steps trace untimely =
    line_text (script_head_data job (option_map slice_key key) key)
    ++ call_lines steps trace.lines.items
    ++ stretch_lines (option_map (λ tasks. tasks.items) trace.stretches)
    ++ handle_lines trace.handles
    ++ line_text (script_end_data (length steps) untimely)

-- the text tells the trace of these steps: line by line, from the first to the last
pub record IsTraceText (job : Job) (key : Option (List ℕ)) (steps : List Step) (text : List ℕ) : Type 0 where
  pub trace : ScriptTrace
  pub traced : IsTraceOf job steps (option_map slice_key key) trace
  pub untimely : Option UntimelyReadings
  pub found : AreUntimelyOf job.policy.skew steps untimely
  pub lines : text ≡ lines_of job key steps trace untimely
