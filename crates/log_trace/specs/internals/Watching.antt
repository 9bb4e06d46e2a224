-- What is kept of the calls of a log that were played.
use Rattle.std.specs.Prelude.{ℕ, List, Option, Some, None, ⊤, reverse, take}
use Rattle.cluster.specs.Pasts.{Past}
use Rattle.cluster.specs.continued.Jobs.{from_start}
use Rattle.job_calls.specs.Jobs.{Job}
use Rattle.stretches.specs.declared.job_stretches.JobStretches.{JobStretches}
use Rattle.stretches.specs.Tasks.{AreKept}
use Rattle.log_line.specs.declared.entry.LogEntry.{LogEntry}
use Rattle.log_line.specs.declared.line.LoggedCall.{LoggedCall}
use Rattle.log_line.specs.declared.told.CallerReply.{CallerReply}
use Rattle.log_run.specs.declared.log_machines.LogMachines.{LogMachines}
use Rattle.log_run.specs.Played.{AreCallsOf, StandsFor}
use Rattle.log_run.specs.internals.Machines.{HavePlayed}
use Rattle.log_trace.specs.declared.serving.ServingKept.{ServingKept}
use Rattle.log_trace.specs.Serving.{AreHandlesOf}

-- the stretches of a key, if there is one, after these calls
abbrev pub AreStretchesKept : Job → Past → Option ℕ → Option JobStretches → Type 0
AreStretchesKept job past None None = ⊤
AreStretchesKept job past (Some key) (Some kept) = AreKept job past key kept
AreStretchesKept job past _ _ = ⊥

-- the stretches of the key and the handles, after these calls
pub record IsServingKept (job : Job) (key : Option ℕ) (past : Past) (kept : ServingKept) : Type 0 where
  pub stretches : AreStretchesKept job past key kept.stretches
  pub handles : AreHandlesOf job past kept.handles

-- the machines made the calls of one more line, and this is kept after them
pub record IsKeptAfter (job : Job) (key : Option ℕ) (past : Past) (c : LoggedCall) (machines : LogMachines) (serving : ServingKept) : Type 0 where
  pub told : CallerReply
  pub after : Past
  pub stands : StandsFor job past c told after
  pub played : HavePlayed (from_start job) after machines
  pub kept : IsServingKept job key after serving

-- so many entries were played, and this is kept of their calls
pub record AreServed (job : Job) (key : Option ℕ) (entries : List LogEntry) (index : ℕ) (machines : LogMachines) (serving : ServingKept) : Type 0 where
  pub past : Past
  pub calls : AreCallsOf (from_start job) (reverse (take index entries)) past
  pub played : HavePlayed (from_start job) past machines
  pub kept : IsServingKept job key past serving
