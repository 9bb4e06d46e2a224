-- The runs that led to a cluster, at each of their points.
use Rattle.std.specs.Prelude.{◌≡◌, ◌⊎◌, ◌++◌}
use Rattle.job_calls.specs.Jobs.{Job}
use Rattle.cluster.specs.declared.cluster.Cluster.{Cluster}
use Rattle.cluster.specs.Pasts.{Past}
use Rattle.cluster.specs.Runs.{IsRun}
use Rattle.cluster.specs.Clusters.{LeadsTo}
use Rattle.cluster.specs.continued.Clusters as continued
use Rattle.cluster.specs.continued.Snapshots.{Remembered, IsAllSent, continued_from}

-- a run led to a cluster that began with it, at its end or before
pub record IsFromStart (job : Job) (run : Past) (cluster : Cluster) : Type 0 where
  pub later : Past
  pub leads : LeadsTo job (later ++ run) cluster

-- a run began before a snapshot and led to a cluster that went on from it; no call since was told that something was not sent
pub record IsFromSnapshot (job : Job) (run : Past) (cluster : Cluster) : Type 0 where
  pub before : Past
  pub remembered : Remembered
  pub is_run : IsRun job before
  pub since : Past
  pub leads : continued.LeadsTo (continued_from job before remembered) (since ++ before) cluster
  pub all_sent : IsAllSent since
  pub later : Past
  pub whole : since ++ before ≡ later ++ run

-- a run led to a cluster
abbrev pub Led : Job → Past → Cluster → Type 0
Led job run cluster = IsFromStart job run cluster ⊎ IsFromSnapshot job run cluster
