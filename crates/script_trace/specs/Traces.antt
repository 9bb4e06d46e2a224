-- The trace of a script.
use Rattle.std.specs.Prelude.{◌≡◌, ℕ, List, reverse, Option, option_map}
use Rattle.world.specs.Jobs.{Job}
use Rattle.world.specs.declared.step.Step.{Step}
use Rattle.world.specs.Pasts.{Past, steps_of}
use Rattle.world.specs.Runs.{IsRun}
use Rattle.script_trace.specs.declared.trace.ScriptTrace.{ScriptTrace}
use Rattle.script_trace.specs.Handles.{AreHandlesOf, AreStretchesOf}
use Rattle.script_trace.specs.Lines.{AreLines}

-- a job plays these steps from its first on; there is a line for each with its reply and what decides it, and of the whole: when each task may
-- serve the key, if there is one, and when each handle breaks
pub record IsTraceOf (job : Job) (steps : List Step) (key : Option ℕ) (trace : ScriptTrace) : Type 0 where
  pub past : Past
  pub run : IsRun job past
  pub played : steps_of past ≡ reverse steps
  pub lines : AreLines job past (reverse trace.lines.items)
  pub stretches : AreStretchesOf job past key (option_map (λ tasks. tasks.items) trace.stretches)
  pub handles : AreHandlesOf job past trace.handles
