-- The text of a trace tells the trace that was made.
use Rattle.std.proofs.Common.{◌≡◌, ℕ, List, Option, Result, Ok, Err, IfOk, option_map}
use Rattle.slice_ranges.specs.Hash.{slice_key}
use Rattle.reasons.specs.declared.untimely.UntimelyReadings.{UntimelyReadings}
use Rattle.world.specs.Jobs.{Job}
use Rattle.world.specs.declared.step.Step.{Step}
use Rattle.script_trace.specs.declared.trace.ScriptTrace.{ScriptTrace}
use Rattle.script_trace.specs.Traces.{IsTraceOf}
use Rattle.trace_text.specs.Texts.{AreUntimelyOf, IsTraceText, lines_of}

pub trace_told : {X E : Type 0} (r : Result X E) (text : X → List ℕ) (job : Job) (key : Option (List ℕ)) (steps : List Step) (trace : ScriptTrace)
    (untimely : Option UntimelyReadings) → IsTraceOf job steps (option_map slice_key key) trace → AreUntimelyOf job.policy.skew steps untimely
    → IfOk r (λ x. text x ≡ lines_of job key steps trace untimely) → IfOk r (λ x. IsTraceText job key steps (text x))
trace_told (Ok x) text job key steps trace untimely traced found lines = record {
  trace = trace;
  traced = traced;
  untimely = untimely;
  found = found;
  lines = lines;
}
trace_told (Err e) text job key steps trace untimely traced found lines = lines
