-- Runs of a job that goes on: each call is answered by the calls before it, as far as they are known.
use Rattle.std.specs.Prelude.{◌≡◌, Bool, true, false, IsTrue, [], ◌∷◌, ⊤, ◌↔◌}
use Rattle.machines.specs.Numbers.{is_within}
use Rattle.slicelet.specs.Continuity.{IsContinuous, is_strange}
use Rattle.cluster.specs.continued.Jobs.{Continued}
use Rattle.job_calls.specs.declared.call.ClusterCall.{ClusterCall}
use Rattle.job_calls.specs.declared.call.ClusterCall.TheVariants as call
use Rattle.cluster.specs.Pasts.{Event, Past, task_calls, history}
use Rattle.cluster.specs.continued.Deliveries.{knows_handle}
use Rattle.cluster.specs.Answers.{covers}
use Rattle.cluster.specs.continued.Replies.{reply_to}

-- whether the handle of a `check` is continuous, where it is known, and the task can have given it; another call rests on nothing of the kind
abbrev pub IsOutcome : Continued → Past → ClusterCall → Bool → Type 0
IsOutcome job past (call.Check task handle at) kept =
    is_within task job.tasks ≡ true → knows_handle job.forgotten past handle ≡ true → is_strange (history task past) handle ≡ false
    → IsTrue kept ↔ IsContinuous (covers past handle.key) (task_calls task past) handle at
IsOutcome job past _ kept = ⊤

-- a reply is the one that the calls before it give
abbrev pub IsReply : Continued → Past → Event → Type 0
IsReply job past e = (kept : Bool) × IsOutcome job past e.call kept × (e.reply ≡ reply_to job past e.call kept)

-- a call that is out of memory changes nothing, and is no event of a run
abbrev pub IsRun : Continued → Past → Type 0
IsRun job [] = ⊤
IsRun job (e ∷ past) = IsReply job past e × IsRun job past
