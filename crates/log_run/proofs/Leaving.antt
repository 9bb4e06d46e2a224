-- What calls that were played one after another leave.
use Rattle.std.proofs.Common.{◌≡◌, ◌&&◌, Bool, true, false, List, reverse, refl, sym, ap}
use Rattle.std.specs.Prelude.{Option, Some, None}
use Rattle.grants.specs.Policies.{Terms}
use Rattle.job_calls.specs.Jobs.{Job}
use Rattle.job_calls.specs.declared.snapshot.ClusterSnapshot.{ClusterSnapshot}
use Rattle.cluster.specs.continued.Jobs.{Continued}
use Rattle.cluster.specs.Pasts.{Past}
use Rattle.cluster.specs.continued.Runs.{IsRun}
use Rattle.log_line.specs.declared.entry.LogEntry.{LogEntry}
use Rattle.log_run.specs.declared.late.Late.{Late}
use Rattle.log_run.specs.declared.outcome.Outcome.{Outcome}
use Rattle.log_run.specs.declared.outcome.Outcome.TheVariants.{One, Double, Other}
use Rattle.log_run.specs.declared.log_machines.LogMachines.{LogMachines}
use Rattle.log_run.specs.Days.{IsSent, IsSentSo}
use Rattle.log_run.specs.OneRun.{IsPastOf, Tells, TicketsRise}
use Rattle.log_run.specs.Outcomes.{IsJudged, IsReplayed}
use Rattle.log_run.specs.Starts.{BeginsAt}
use Rattle.log_run.specs.States.{IsSnapshotIfRun, IsStateOf}
use Rattle.log_run.proofs.Replaying.{IsPlayedTo}

-- a job that goes on keeps its policy
pub same_policy : (job : Continued) (own : Job) (earlier : Option ClusterSnapshot) → BeginsAt job own earlier → own.policy ≡ job.policy
same_policy job own None begins = sym (ap (λ (j : Continued). j.policy) begins)
same_policy job own (Some s) begins = sym (ap (λ (j : Continued). j.policy) begins.is)

pub none_kept : (keeps : Bool) → false ≡ (keeps && false)
none_kept true = refl
none_kept false = refl

pub state_left : (job : Continued) (entries : List LogEntry) (machines : LogMachines) (known : IsPlayedTo job entries machines) → IsRun job known.past
    → (state : Option ClusterSnapshot) → IsSnapshotIfRun job known.past state → IsStateOf job entries state
state_left job entries machines known run None is = tt
state_left job entries machines known run (Some s) is = record { past = known.past; told = known.told; answered = run; snapshot = is }

-- of a run, whether no reply was that something was not sent
pub sent_in : (is : Bool) (job : Continued) (entries : List LogEntry) (past : Past) (late : Option Late) → IsPastOf job (reverse entries) past → IsRun job past
    → IsSentSo is job past → Tells job entries past late → IsSent is job entries late
sent_in true job entries past late told run sent tells = (past, record { told = told; answered = run; sent = sent }, tells)
sent_in false job entries past late told run unsent tells = record { past = past; told = told; answered = run; unsent = unsent }

pub judged_in : (job : Continued) (entries : List LogEntry) (outcome : Outcome) → TicketsRise entries → IsReplayed job entries outcome → IsJudged job entries outcome
judged_in job entries (One steps late) rise is = (rise, is)
judged_in job entries (Double first second) rise is = is
judged_in job entries (Other index wanted held machines) rise is = (rise, is)
