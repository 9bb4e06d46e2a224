-- When a call may be out of memory.
use Rattle.job_calls.specs.Jobs.{Job}
use Rattle.job_calls.specs.declared.call.ClusterCall.{ClusterCall}
use Rattle.cluster.specs.Pasts.{Past}
use Rattle.cluster.specs.continued.Jobs.{from_start}
use Rattle.cluster.specs.continued.Memory as continued
pub use Rattle.cluster.specs.TakingMemory.{task_takes_memory, takes_memory, gives_handle, needs_memory}

-- a call may be out of memory: it takes some, and its reply would need some, whatever that reply rests on
abbrev pub MayRunOut : Job → Past → ClusterCall → Type 0
MayRunOut job past c = continued.MayRunOut (from_start job) past c
