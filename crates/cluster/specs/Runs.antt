-- Runs: each call is answered by the calls before it.
use Rattle.std.specs.Prelude.{Bool}
use Rattle.job_calls.specs.Jobs.{Job}
use Rattle.job_calls.specs.declared.call.ClusterCall.{ClusterCall}
use Rattle.cluster.specs.Pasts.{Event, Past}
use Rattle.cluster.specs.continued.Jobs.{from_start}
use Rattle.cluster.specs.continued.Runs as continued

-- whether the handle of a `check` is continuous, where it was given, and the task can have given it; another call rests on nothing of the kind
abbrev pub IsOutcome : Job → Past → ClusterCall → Bool → Type 0
IsOutcome job past c kept = continued.IsOutcome (from_start job) past c kept

-- a reply is the one that the calls before it give
abbrev pub IsReply : Job → Past → Event → Type 0
IsReply job past e = continued.IsReply (from_start job) past e

-- a call that is out of memory changes nothing, and is no event of a run
abbrev pub IsRun : Job → Past → Type 0
IsRun job past = continued.IsRun (from_start job) past
