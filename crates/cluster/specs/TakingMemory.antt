-- Which calls take memory, and which replies need some.
use Rattle.std.specs.Prelude.{Bool, true, false}
use Rattle.lease_table.specs.Memory.{takes_memory as table_takes_memory}
use Rattle.grants.specs.declared.slicelet_call.SliceletCall.{SliceletCall}
use Rattle.grants.specs.declared.slicelet_call.SliceletCall.TheVariants.{Resume}
use Rattle.slicelet.specs.Memory.{takes_memory as slicelet_takes_memory}
use Rattle.clerk.specs.Memory.{takes_memory as clerk_takes_memory}
use Rattle.job_calls.specs.declared.call.ClusterCall.{ClusterCall}
use Rattle.job_calls.specs.declared.call.ClusterCall.TheVariants as call
use Rattle.job_calls.specs.declared.reply.ClusterReply.{ClusterReply}
use Rattle.job_calls.specs.declared.reply.ClusterReply.TheVariants as reply
use Rattle.cluster.specs.Pasts.{is_accepted}

-- a call of a task takes the memory of its slicelet, or that for the notes of a life that ended
abbrev pub task_takes_memory : SliceletCall → Bool
task_takes_memory (Resume life) = true
task_takes_memory c = slicelet_takes_memory c

-- a call takes memory
abbrev pub takes_memory : ClusterCall → Bool
takes_memory (call.Table c) = table_takes_memory c
takes_memory (call.Task task c) = task_takes_memory c
takes_memory (call.Clerk clerk c) = clerk_takes_memory c
takes_memory call.Rows = true
takes_memory (call.Hold task key at) = true
takes_memory _ = false

-- a reply needs memory where it accepts its call; that of a `hold` only where it gives a handle, and a denial needs none
abbrev pub gives_handle : ClusterReply → Bool
gives_handle (reply.Holding handle) = true
gives_handle _ = false

abbrev pub needs_memory : ClusterCall → ClusterReply → Bool
needs_memory (call.Hold task key at) told = gives_handle told
needs_memory _ told = is_accepted told
