-- What a tracer knows of the steps that it played.
use Rattle.std.specs.Prelude.{◌≡◌, ℕ, map, length, Option}
use Rattle.reasons.specs.Readings.{IsGreatestOf}
use Rattle.world.specs.Jobs.{Job}
use Rattle.world.specs.Pasts.{Past, reading, steps_of}
use Rattle.world.specs.Worlds.{LeadsTo}
use Rattle.script_trace.specs.declared.tracer.ScriptTracer.{ScriptTracer}
use Rattle.script_trace.specs.internals.Keeping.{AreCallsKept}

-- a tracer of a job and a key, if there is one, played these steps with these replies
pub record IsTracing (job : Job) (key : Option ℕ) (past : Past) (tracer : ScriptTracer) : Type 0 where
  pub same_job : tracer.job ≡ job
  pub leads : LeadsTo job past tracer.world
  pub steps : tracer.steps ≡ length past
  pub greatest : IsGreatestOf job.policy.skew (map reading (steps_of past)) tracer.greatest
  pub calls : AreCallsKept job key past tracer.calls
