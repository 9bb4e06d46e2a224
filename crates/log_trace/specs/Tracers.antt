-- What a tracer knows of the entries that it played.
use Rattle.std.specs.Prelude.{◌≡◌, ℕ, ◌+◌, List, reverse, take, Some, slice_get}
use Rattle.cluster.specs.Pasts.{Past}
use Rattle.cluster.specs.continued.Jobs.{Continued}
use Rattle.reasons.specs.Placed.{Placed, ArePlaces}
use Rattle.reasons.specs.Readings.{IsGreatestOf}
use Rattle.log_line.specs.declared.entry.LogEntry.{LogEntry}
use Rattle.log_run.specs.internals.Machines.{HavePlayed}
use Rattle.log_trace.specs.declared.line.LogLine.{LogLine}
use Rattle.log_trace.specs.declared.tracer.LogTracer.{LogTracer}
use Rattle.log_trace.specs.Calls.{AreCallsAt, AreMadeAt}
use Rattle.log_trace.specs.Lines.{IsLine, readings_before}

-- a tracer has played these entries, each with its calls at its number
pub record IsTracing (job : Continued) (entries : List LogEntry) (past : Past) (placed : List Placed) (tracer : LogTracer) : Type 0 where
  pub calls : AreCallsAt job (reverse entries) placed past
  pub played : HavePlayed job past tracer.machines
  pub greatest : IsGreatestOf job.policy.skew (readings_before job entries) tracer.greatest
  pub places : ArePlaces job.tasks placed tracer.places

-- a tracer plays the entry at this index next, and tells this of it
pub record IsTracedAt (job : Continued) (entries : List LogEntry) (index : ℕ) (past : Past) (placed : List Placed) (line : LogLine)
    (tracer : LogTracer) : Type 0 where
  pub entry : LogEntry
  pub here : slice_get entries index ≡ Some entry
  pub after : Past
  pub placed_after : List Placed
  pub tells : IsLine job entries index entry past placed after line
  pub at : AreMadeAt (index + 1) past placed after placed_after
  pub tracing : IsTracing job (take (index + 1) entries) after placed_after tracer
