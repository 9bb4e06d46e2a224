-- Machines that have played a past, and the record of it.
use Rattle.std.specs.Prelude.{Option, Some, None, ⊤}
use Rattle.cluster.specs.Pasts.{Past}
use Rattle.cluster.specs.continued.Jobs.{Continued, job_in}
use Rattle.cluster.specs.continued.Clusters.{LeadsTo}
use Rattle.run_record.specs.Records.{IsRecordOf}
use Rattle.run_record.specs.declared.run_record.RunRecord.{RunRecord}
use Rattle.log_run.specs.declared.log_machines.LogMachines.{LogMachines}
use Rattle.log_run.specs.Days.{IsSentSo}

-- a record of a past, if one is kept
abbrev pub IsRecorded : Continued → Past → Option RunRecord → Type 0
IsRecorded job past None = ⊤
IsRecorded job past (Some run) = IsRecordOf (job_in job) past run

-- a past leads to the machines, and is recorded if that is wanted; they say whether no reply since their start was that something was not sent
pub record HavePlayed (job : Continued) (past : Past) (machines : LogMachines) : Type 0 where
  pub leads : LeadsTo job past machines.cluster
  pub recorded : IsRecorded job past machines.run
  pub sent : IsSentSo machines.all_sent job past
