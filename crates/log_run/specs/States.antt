-- What the machines stand at after a log, for an audit that goes on from there.
use Rattle.std.specs.Prelude.{List, Option, Some, None, reverse, ⊤}
use Rattle.cluster.specs.Pasts.{Past}
use Rattle.cluster.specs.Runs.{IsRun}
use Rattle.cluster.specs.continued.Jobs.{Continued, job_in}
use Rattle.cluster.specs.continued.Runs as continued
use Rattle.cluster.specs.continued.Snapshots.{IsSnapshotOf}
use Rattle.job_calls.specs.declared.snapshot.ClusterSnapshot.{ClusterSnapshot}
use Rattle.log_line.specs.declared.entry.LogEntry.{LogEntry}
use Rattle.log_run.specs.OneRun.{IsPastOf}

-- if the machines would have told the same had they forgotten nothing, the snapshot is one of theirs
abbrev pub IsSnapshotIfRun : Continued → Past → Option ClusterSnapshot → Type 0
IsSnapshotIfRun job past None = ⊤
IsSnapshotIfRun job past (Some s) = IsRun (job_in job) past → IsSnapshotOf (job_in job) past s

-- this is a snapshot of the machines that made the calls of entries, whose callers were told so, if there is one
pub record IsSnapshotAfter (job : Continued) (entries : List LogEntry) (state : Option ClusterSnapshot) : Type 0 where
  pub past : Past
  pub told : IsPastOf job (reverse entries) past
  pub answered : continued.IsRun job past
  pub snapshot : IsSnapshotIfRun job past state

abbrev pub IsStateOf : Continued → List LogEntry → Option ClusterSnapshot → Type 0
IsStateOf job entries None = ⊤
IsStateOf job entries (Some s) = IsSnapshotAfter job entries (Some s)
