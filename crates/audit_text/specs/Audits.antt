-- What an audit says of the files of a log.
use Rattle.std.specs.Prelude.{◌≡◌, ◌&&◌, ℕ, Bool, true, false, List, ◌++◌, Option, None, is_some, string_bytes}
use Rattle.std.specs.Ordering.{nat_cmp}
use Rattle.std.specs.List.Sorted.{IsPermutation, IsStableByKey}
use Rattle.cluster.specs.continued.Jobs.{Continued}
use Rattle.job_calls.specs.declared.snapshot.ClusterSnapshot.{ClusterSnapshot}
use Rattle.log_line.specs.declared.entry.LogEntry.{LogEntry}
use Rattle.log_line.specs.declared.log.Log.{Log}
use Rattle.log_line.specs.Files.{IsLog, lines_from}
use Rattle.log_run.specs.declared.outcome.Outcome.{Outcome}
use Rattle.log_run.specs.declared.outcome.Outcome.TheVariants.{One}
use Rattle.log_run.specs.Outcomes.{IsJudged, IsSentIn, is_one_run}
use Rattle.log_run.specs.Starts.{BeginsAt}
use Rattle.log_run.specs.States.{IsStateOf}
use Rattle.audit_text.specs.declared.auditing.AuditOptions.{AuditOptions}
use Rattle.audit_text.specs.declared.auditing.LogReport.{LogReport}
use Rattle.audit_text.specs.declared.comparing.WrongReply.{WrongReply}
use Rattle.audit_text.specs.DriftReports.{IsDriftTold}
use Rattle.audit_text.specs.FenceReports.{IsFenceTold}
use Rattle.audit_text.specs.Reports.{unsent_text, whole_text}
use Rattle.audit_text.specs.WrongReplies.{AreLater}

-- whether the calls are one run with timely clocks
abbrev pub is_timely : Outcome → Bool
is_timely (One steps None) = true
is_timely _ = false

-- the files say a log, but for the last lines at the places that the report has, which begins with its job, or goes on from a snapshot; this is found of
-- its calls in the order of their tickets, where equal tickets stay in the order of their lines, and the text reports it, with the later wrong replies if
-- all are wanted, with what the samples say of a drift, with refusals that are not judged if it goes on from a snapshot, and with whether the writes obey
-- the law of fencing tokens; the report has the state after the calls if that is wanted and they are one run
pub record IsAudited (job : Continued) (earlier : Option ClusterSnapshot) (names files : List (List ℕ)) (options : AuditOptions) (report : LogReport) : Type 0 where
  pub log : Log
  pub begins : BeginsAt job log.job earlier
  pub left_out : report.torn.items ≡ log.torn.items
  pub reads : IsLog (lines_from 0 files) log
  pub ordered : List LogEntry
  pub same : IsPermutation log.entries.items ordered
  pub stable : IsStableByKey (λ e. e.line.ticket) nat_cmp log.entries.items ordered
  pub outcome : Outcome
  pub judged : IsJudged job ordered outcome
  pub one : report.is_one ≡ is_one_run outcome
  pub timely : report.is_timely ≡ is_timely outcome
  pub later : List WrongReply
  pub more : AreLater job ordered options.all outcome later
  pub drift : List ℕ
  pub samples : IsDriftTold options.drift names ordered outcome report.keeps_drift drift
  pub fence : List ℕ
  pub writes : IsFenceTold job (is_some earlier) names ordered reads.writes (is_one_run outcome) report.is_fenced fence
  pub text : string_bytes report.text
      ≡ whole_text log.job names ordered outcome later
      ++ (drift ++ (unsent_text (is_some earlier) (is_one_run outcome) report.all_sent ++ fence))
  pub kept : is_some report.state ≡ (options.keeps && is_one_run outcome)
  pub state : IsStateOf job ordered report.state
  pub sent : IsSentIn job ordered outcome report.all_sent
