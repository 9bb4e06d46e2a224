-- The call that a line tells, by the calls before it.
use Rattle.std.specs.Prelude.{ℕ, List, [], length, Option, Some, None, option_map, option_and_then}
use Rattle.assignment.specs.Slices.{Slicing}
use Rattle.grants.specs.declared.values.Grant.{Grant}
use Rattle.grants.specs.declared.table_call.TableCall.TheVariants as table_call
use Rattle.grants.specs.declared.slicelet_call.SliceletCall.TheVariants.{Hear}
use Rattle.slicelet.specs.States.{SliceletState, held_lease}
use Rattle.clerk.specs.declared.call.ClerkCall.TheVariants.{Learn}
use Rattle.job_calls.specs.Jobs.{Job}
use Rattle.cluster.specs.Clusters.{slicelet_of}
use Rattle.job_calls.specs.declared.call.ClusterCall.{ClusterCall}
use Rattle.job_calls.specs.declared.call.ClusterCall.TheVariants as call
use Rattle.job_calls.specs.declared.reply.ClusterReply.{ClusterReply}
use Rattle.cluster.specs.Numbers.{with_number}
use Rattle.cluster.specs.Pasts.{Past, grants, published}
use Rattle.log_run.specs.declared.held.HeldLeases.{HeldLeases}
use Rattle.cluster.specs.Deliveries.{notes_made, handles_made}
use Rattle.replies.specs.Told.{numbers_after}
use Rattle.log_line.specs.declared.told.CallerReply.{CallerReply}
use Rattle.log_line.specs.declared.line.BareGrant.{BareGrant}
use Rattle.log_line.specs.declared.line.LoggedCall.{LoggedCall}
use Rattle.log_line.specs.declared.line.LoggedCall.TheVariants.{Whole, HearBare, LearnBare, Restore, Sample}
use Rattle.log_line.specs.Calls.{with_ranges}
use Rattle.log_line.specs.Told.{told_as}

-- the ranges of a grant that was sent; where none was, none
abbrev pub ranges_sent : Option Grant → List ℕ
ranges_sent (Some sent) = sent.lease.ranges
ranges_sent None = []

-- ranges that are left out are those of the grant of this number that the table sent: the keys that its task owns in its generation
abbrev pub whole_grant : Past → BareGrant → Grant
whole_grant past g = with_ranges g (ranges_sent (with_number g.number (grants past)))

-- an assignment that was published; where none was, one of this generation without slices
abbrev pub slicing_sent : ℕ → Option Slicing → Slicing
slicing_sent generation (Some sent) = sent
slicing_sent generation None = record { generation = generation; slices = [] }

-- slices that are left out are those of the assignment of this generation that the table published
abbrev pub whole_slicing : Past → ℕ → Slicing
whole_slicing past generation = slicing_sent generation (published generation past)

-- the call that a line tells after these calls; of a table that is restored, its restart, and of a sample one that only asks
abbrev pub call_after : Past → LoggedCall → ClusterCall
call_after past (Whole c) = c
call_after past (HearBare task grant at) = call.Task task (Hear (whole_grant past grant) at)
call_after past (LearnBare clerk generation) = call.Clerk clerk (Learn (whole_slicing past generation))
call_after past (Restore numbers) = call.Table table_call.Restart
call_after past (Sample taken) = call.Phase

-- the task that a call asks for a key
abbrev pub asked_task : LoggedCall → Option ℕ
asked_task (Whole (call.Serve task key at)) = Some task
asked_task (Whole (call.Hold task key at)) = Some task
asked_task _ = None

-- the leases of a slicelet
abbrev pub leases_held : SliceletState → HeldLeases
leases_held s = record { guard = option_map held_lease s.guard; bridge = option_map held_lease s.bridge }

-- the leases of the task that a call asks for a key after these calls, if the job has the task
abbrev pub held_by_asked : Job → Past → LoggedCall → Option HeldLeases
held_by_asked job past c = option_map leases_held (option_and_then (slicelet_of job past) (asked_task c))

-- what the caller of a call is told after these calls
abbrev pub told_after : Past → LoggedCall → ClusterReply → CallerReply
told_after past c answer = told_as c (numbers_after (length (notes_made past)) (length (handles_made past))) answer
