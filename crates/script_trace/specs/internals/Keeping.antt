-- What is kept of the calls of a script's steps.
use Rattle.std.specs.Prelude.{ℕ, Option, Some, None, ⊤}
use Rattle.cluster.specs.Pasts.{Past as Calls}
use Rattle.reasons.specs.Placed.{ArePlaces}
use Rattle.stretches.specs.declared.job_stretches.JobStretches.{JobStretches}
use Rattle.stretches.specs.Tasks.{AreKept}
use Rattle.world.specs.Jobs.{Job}
use Rattle.world.specs.Pasts.{Past}
use Rattle.world.specs.Calls.{calls_in}
use Rattle.script_trace.specs.declared.kept.KeptCalls.{KeptCalls}
use Rattle.script_trace.specs.Handles.{AreHandlesOf}
use Rattle.script_trace.specs.Steps.{placed_in}

-- the stretches of a key, if there is one, after these calls
abbrev pub AreStretchesKept : Job → Calls → Option ℕ → Option JobStretches → Type 0
AreStretchesKept job calls None None = ⊤
AreStretchesKept job calls (Some key) (Some kept) = AreKept job calls key kept
AreStretchesKept job calls _ _ = ⊥

-- the places of the calls that each task accepted, the stretches of the key, and the handles, after these steps
pub record AreCallsKept (job : Job) (key : Option ℕ) (past : Past) (kept : KeptCalls) : Type 0 where
  pub places : ArePlaces job.tasks (placed_in job past) kept.places
  pub stretches : AreStretchesKept job (calls_in job past) key kept.stretches
  pub handles : AreHandlesOf job past kept.handles
