-- Which past leads to a cluster.
use Rattle.std.specs.Prelude.{ℕ, Option, Some, None, Result, if◌then◌else◌}
use Rattle.std.specs.declared.alloc.AllocError.{AllocError}
use Rattle.machines.specs.Numbers.{is_within}
use Rattle.slicelet.specs.States.{SliceletState}
use Rattle.job_calls.specs.Jobs.{Job}
use Rattle.job_calls.specs.declared.call.ClusterCall.{ClusterCall}
use Rattle.job_calls.specs.declared.reply.ClusterReply.{ClusterReply}
use Rattle.cluster.specs.declared.cluster.Cluster.{Cluster}
use Rattle.cluster.specs.Pasts.{Past, history}
use Rattle.cluster.specs.continued.Jobs.{from_start}
use Rattle.cluster.specs.continued.Clusters as continued
pub use Rattle.cluster.specs.ActorLists.{AreActors}

-- the calls of a past, with their replies, lead from a new cluster to this one
abbrev pub LeadsTo : Job → Past → Cluster → Type 0
LeadsTo job past cluster = continued.LeadsTo (from_start job) past cluster

-- a call is answered, or it is out of memory where it may be, and the same past leads to the cluster as before
abbrev pub IsPlayed : Job → Past → ClusterCall → Result ClusterReply AllocError → Cluster → Type 0
IsPlayed job past call result cluster = continued.IsPlayed (from_start job) past call result cluster

-- a call that delivers what has a number is answered as the call that holds it; where nothing has the number, this is answered, and nothing changes
abbrev pub IsPlayedOr : Job → Past → Option ClusterCall → ClusterReply → Result ClusterReply AllocError → Cluster → Type 0
IsPlayedOr job past call none result cluster = continued.IsPlayedOr (from_start job) past call none result cluster

-- the slicelet of a task of the job
abbrev pub slicelet_of : Job → Past → ℕ → Option SliceletState
slicelet_of job past task = if is_within task job.tasks then Some (history task past) else None
