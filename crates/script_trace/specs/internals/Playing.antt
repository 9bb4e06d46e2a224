-- What is known of a step just before it is played, and just after.
use Rattle.std.specs.Prelude.{◌≡◌, ◌∷◌, ℕ, List, map, Option, reverse}
use Rattle.reasons.specs.Readings.{IsGreatestOf}
use Rattle.replies.specs.declared.reply.Reply.{Reply}
use Rattle.world.specs.Jobs.{Job}
use Rattle.world.specs.declared.step.Step.{Step}
use Rattle.world.specs.Pasts.{Past, event, reading, steps_of}
use Rattle.world.specs.Calls.{call_of, calls_in}
use Rattle.world.specs.Worlds.{LeadsTo}
use Rattle.script_trace.specs.declared.line.TraceLine.{TraceLine}
use Rattle.script_trace.specs.declared.tracer.Before.{Before}
use Rattle.script_trace.specs.declared.tracer.ScriptTracer.{ScriptTracer}
use Rattle.script_trace.specs.Lines.{AreLines}
use Rattle.script_trace.specs.Steps.{delivered_in}
use Rattle.script_trace.specs.Tracers.{IsTracing}
use Rattle.script_trace.specs.internals.Asking.{asked_in, task_call_in}
use Rattle.script_trace.specs.internals.Keeping.{AreCallsKept}

-- what a step delivers, asks and calls
pub record IsBefore (job : Job) (past : Past) (s : Step) (before : Before) : Type 0 where
  pub delivered : before.delivered ≡ delivered_in (calls_in job past) s
  pub asked : before.asked ≡ asked_in s (call_of job past (calls_in job past) s)
  pub task_call : before.task_call ≡ task_call_in (call_of job past (calls_in job past) s)

-- the world has played the step, and the rest of the tracer has not seen it yet
pub record IsPlaying (job : Job) (key : Option ℕ) (past : Past) (s : Step) (answer : Reply) (tracer : ScriptTracer) : Type 0 where
  pub same_job : tracer.job ≡ job
  pub leads : LeadsTo job (event s answer ∷ past) tracer.world
  pub greatest : IsGreatestOf job.policy.skew (map reading (steps_of past)) tracer.greatest
  pub calls : AreCallsKept job key past tracer.calls

-- these steps were played, and there is a line for each
pub record AreTraced (job : Job) (key : Option ℕ) (steps : List Step) (told : List TraceLine) (tracer : ScriptTracer) : Type 0 where
  pub past : Past
  pub tracing : IsTracing job key past tracer
  pub played : steps_of past ≡ reverse steps
  pub lines : AreLines job past (reverse told)
