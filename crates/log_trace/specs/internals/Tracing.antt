-- What is known of a trace while its entries are played.
use Rattle.std.specs.Prelude.{ℕ, List, reverse, take}
use Rattle.cluster.specs.Pasts.{Past}
use Rattle.cluster.specs.continued.Jobs.{Continued}
use Rattle.reasons.specs.Placed.{Placed}
use Rattle.log_line.specs.declared.entry.LogEntry.{LogEntry}
use Rattle.log_trace.specs.declared.line.LogLine.{LogLine}
use Rattle.log_trace.specs.declared.trace.LogTrace.{LogTrace}
use Rattle.log_trace.specs.declared.tracer.LogTracer.{LogTracer}
use Rattle.log_trace.specs.Tracers.{IsTracing}
use Rattle.log_trace.specs.Traces.{AreLines, AreToldIn}

-- so many entries were played, and there is a line for each
pub record AreTraced (job : Continued) (entries : List LogEntry) (index : ℕ) (trace : LogTrace) (tracer : LogTracer) : Type 0 where
  pub past : Past
  pub placed : List Placed
  pub all : List LogLine
  pub tracing : IsTracing job (take index entries) past placed tracer
  pub lines : AreLines job entries (reverse (take index entries)) past placed (reverse all)
  pub told : AreToldIn all trace
