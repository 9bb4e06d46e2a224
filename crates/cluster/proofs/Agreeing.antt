-- What the ranges of the leases that a task heard cover is what the owners of the key say.
use Rattle.std.proofs.Common.{◌≡◌, ℕ}
use Rattle.machines.proofs.Every.{all_weaker}
use Rattle.slice_ranges.specs.Sets.{has}
use Rattle.grants.specs.declared.values.Grant.{Grant}
use Rattle.lease_table.specs.OpenRows.{IsSent}
use Rattle.lease_table.specs.Generations.{covers_by_owners}
use Rattle.grants.specs.declared.slicelet_call.SliceletCall.{SliceletCall}
use Rattle.grants.specs.declared.slicelet_call.SliceletCall.TheVariants.{Start, Hear, Release, Resume}
use Rattle.slicelet.specs.Rules.{covers_key}
use Rattle.slicelet.specs.Laws.{AgreeOnCall, AgreeOnHeard}
use Rattle.cluster.specs.continued.Jobs.{Continued}
use Rattle.cluster.specs.Pasts.{Past, table_calls, task_calls}
use Rattle.cluster.specs.Answers.{covers}
use Rattle.cluster.specs.continued.Runs.{IsRun}
use Rattle.cluster.proofs.Sending.{HearsSent, all_heard_sent}

pub agree : (job : Continued) (past : Past) (task key : ℕ) → IsRun job past
    → ((grant : Grant) → IsSent (table_calls past) grant → has grant.lease.ranges key ≡ covers_by_owners (table_calls past) key grant)
    → AgreeOnHeard (covers_key key) (covers past key) (task_calls task past)
agree job past task key run same =
    all_weaker (HearsSent (table_calls past)) (AgreeOnCall (covers_key key) (covers past key)) (task_calls task past) each (all_heard_sent job task past run)
  where
    each : (c : SliceletCall) → HearsSent (table_calls past) c → AgreeOnCall (covers_key key) (covers past key) c
    each (Start life at) h = tt
    each (Hear grant at) h = same grant h
    each (Release kind at) h = tt
    each (Resume life) h = tt
