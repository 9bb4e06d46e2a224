-- When tasks may serve a key by the calls of a log, the handles that they gave, and when each breaks.
use Rattle.std.specs.Prelude.{ℕ, ◌+◌, ◌==◌, List, [], ◌∷◌, ◌++◌, length, reverse, Option, Some, None, ⊤, option_map, if◌then◌else◌}
use Rattle.job_calls.specs.Jobs.{Job}
use Rattle.job_calls.specs.declared.call.ClusterCall.{ClusterCall}
use Rattle.job_calls.specs.declared.call.ClusterCall.TheVariants as call
use Rattle.job_calls.specs.declared.reply.ClusterReply.{ClusterReply}
use Rattle.job_calls.specs.declared.reply.ClusterReply.TheVariants as reply
use Rattle.cluster.specs.ActorLists.{AreActors}
use Rattle.cluster.specs.Made.{handles_made}
use Rattle.cluster.specs.Pasts.{Past, task_calls}
use Rattle.cluster.specs.Runs.{IsRun}
use Rattle.cluster.specs.continued.Jobs.{from_start}
use Rattle.stretches.specs.declared.breaks.GivenHandle.{GivenHandle}
use Rattle.stretches.specs.declared.job_handles.JobHandles.{JobHandles}
use Rattle.stretches.specs.declared.stretch.Stretch.{Stretch}
use Rattle.stretches.specs.Stretches.{processes}
use Rattle.stretches.specs.Tasks.{AreTaskStretches, AreWatched, names_of}
use Rattle.log_line.specs.declared.entry.LogEntry.{LogEntry}
use Rattle.log_run.specs.Played.{AreCallsOf}
use Rattle.log_trace.specs.declared.serving.LogServing.{LogServing}

-- the handles that a task gave after some calls, in order, without when they break: each has its number among all, and the process that gave it
abbrev pub given_with : ℕ → Past → ClusterCall → ClusterReply → List GivenHandle → List GivenHandle
given_with task past (call.Hold by key at) (reply.Holding handle) before =
    if by == task
    then before ++ record { number = length (handles_made past) + 1; process = processes (task_calls task past); handle = handle; from = at; breaks = 0 } ∷ []
    else before
given_with task past _ _ before = before

abbrev pub given_by : Past → ℕ → List GivenHandle
given_by [] task = []
given_by (e ∷ past) task = given_with task past e.call e.reply (given_by past task)

-- these are the handles that each task of a job gave, and each breaks where a check would first find it broken
pub record AreHandlesOf (job : Job) (past : Past) (kept : JobHandles) : Type 0 where
  pub given : AreActors (given_by past) job.tasks (names_of kept.tasks.items)
  pub breaks : AreWatched job past kept

-- if there is a key, the stretches in which each task may serve it
abbrev pub AreStretchesOf : Job → Past → Option ℕ → Option (List (List Stretch)) → Type 0
AreStretchesOf job past None None = ⊤
AreStretchesOf job past (Some key) (Some tasks) = AreTaskStretches job past key tasks
AreStretchesOf job past _ _ = ⊥

-- a job's machines make the calls of all entries from its first on, and by these calls tasks may serve the key so, and handles break so
pub record IsServing (job : Job) (entries : List LogEntry) (key : Option ℕ) (told : LogServing) : Type 0 where
  pub past : Past
  pub calls : AreCallsOf (from_start job) (reverse entries) past
  pub run : IsRun job past
  pub stretches : AreStretchesOf job past key (option_map (λ tasks. tasks.items) told.stretches)
  pub handles : AreHandlesOf job past told.handles
