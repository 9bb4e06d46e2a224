-- Logs that are audited day by day.
use Rattle.std.specs.Prelude.{◌≡◌, Bool, true, false, List, ◌++◌, reverse, Option}
use Rattle.job_calls.specs.Jobs.{Job}
use Rattle.cluster.specs.Pasts.{Past}
use Rattle.cluster.specs.Runs.{IsRun}
use Rattle.cluster.specs.continued.Jobs.{Continued, from_start}
use Rattle.cluster.specs.continued.Runs as continued
use Rattle.cluster.specs.continued.Snapshots.{IsAllSent}
use Rattle.log_line.specs.declared.entry.LogEntry.{LogEntry}
use Rattle.log_run.specs.declared.late.Late.{Late}
use Rattle.log_run.specs.OneRun.{IsPastOf, Tells}

-- since the calls before, no reply was that something was not sent
pub record IsSentSince (job : Continued) (past : Past) : Type 0 where
  pub since : Past
  pub whole : past ≡ since ++ job.earlier
  pub sent : IsAllSent since

-- since the calls before, some reply was so
pub record IsUnsentSince (job : Continued) (past : Past) : Type 0 where
  pub since : Past
  pub whole : past ≡ since ++ job.earlier
  pub unsent : IsAllSent since → ⊥

-- this is whether no reply was so
abbrev pub IsSentSo : Bool → Continued → Past → Type 0
IsSentSo true job past = IsSentSince job past
IsSentSo false job past = IsUnsentSince job past

-- entries are a run that goes on from the calls before, and leads to this past; in it no reply was that something was not sent
pub record GoOnTo (job : Continued) (entries : List LogEntry) (past : Past) : Type 0 where
  pub told : IsPastOf job (reverse entries) past
  pub answered : continued.IsRun job past
  pub sent : IsSentSince job past

-- there is such a run, with timely clocks if those of the calls before were, or this reading is the first that is not timely
abbrev pub GoOn : Continued → List LogEntry → Option Late → Type 0
GoOn job entries late = (past : Past) × GoOnTo job entries past × Tells job entries past late

-- entries are a run that goes on from the calls before; in it some reply was that something was not sent
pub record GoOnUnsent (job : Continued) (entries : List LogEntry) : Type 0 where
  pub past : Past
  pub told : IsPastOf job (reverse entries) past
  pub answered : continued.IsRun job past
  pub unsent : IsUnsentSince job past

-- of entries that are a run, this is whether no reply was so
abbrev pub IsSent : Bool → Continued → List LogEntry → Option Late → Type 0
IsSent true job entries late = GoOn job entries late
IsSent false job entries late = GoOnUnsent job entries

-- entries are a run of a job from its first call, and lead to this past
pub record AreRunTo (own : Job) (entries : List LogEntry) (past : Past) : Type 0 where
  pub told : IsPastOf (from_start own) (reverse entries) past
  pub answered : IsRun own past
