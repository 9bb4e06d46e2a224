-- What the machines of an audit begin at.
use Rattle.std.specs.Prelude.{◌≡◌, Option, Some, None}
use Rattle.job_calls.specs.Jobs.{Job}
use Rattle.cluster.specs.Pasts.{Past}
use Rattle.job_calls.specs.declared.snapshot.ClusterSnapshot.{ClusterSnapshot}
use Rattle.cluster.specs.continued.Jobs.{Continued, from_start}
use Rattle.cluster.specs.continued.Snapshots.{IsSnapshotOf, continued_from, remembered_in}
use Rattle.log_run.specs.declared.start.Start.{Start}

-- a job goes on from a run, as far as the snapshot remembers that
pub record GoesOn (job : Continued) (own : Job) (s : ClusterSnapshot) : Type 0 where
  pub past : Past
  pub snapshot : IsSnapshotOf own past s
  pub is : job ≡ continued_from own past (remembered_in s)

-- the machines begin at the first call of a job, or go on from the snapshot of a run
abbrev pub BeginsAt : Continued → Job → Option ClusterSnapshot → Type 0
BeginsAt job own None = job ≡ from_start own
BeginsAt job own (Some s) = GoesOn job own s

abbrev pub Begins : Continued → Start → Type 0
Begins job start = BeginsAt job start.job start.earlier
