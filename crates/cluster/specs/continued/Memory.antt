-- When a call of a job that goes on may be out of memory.
use Rattle.std.specs.Prelude.{◌≡◌, Bool, true}
use Rattle.job_calls.specs.declared.call.ClusterCall.{ClusterCall}
use Rattle.cluster.specs.Pasts.{Past}
use Rattle.cluster.specs.TakingMemory.{takes_memory, needs_memory}
use Rattle.cluster.specs.continued.Jobs.{Continued}
use Rattle.cluster.specs.continued.Replies.{reply_to}

-- a call may be out of memory: it takes some, and its reply would need some, whatever that reply rests on
abbrev pub MayRunOut : Continued → Past → ClusterCall → Type 0
MayRunOut job past c = (takes_memory c ≡ true) × ((kept : Bool) → needs_memory c (reply_to job past c kept) ≡ true)
