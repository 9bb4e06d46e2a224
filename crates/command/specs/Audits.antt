-- What `hourstable audit` writes, and the status that it exits with.
use Rattle.std.specs.Prelude.{◌≡◌, ◌≢◌, ◌⊎◌, ◌+◌, ◌<◌, ◌^◌, ◌++◌, ◌&&◌, ℕ, Bool, true, false, List, [], ◌∷◌, All, length, codes, decimal, string_bytes, Option, Some, None, Result, Ok, Err, ⊤, if◌then◌else◌}
use Rattle.std.specs.Borrow.{Bor}
use Rattle.std.specs.Io.{IsEmptyOrEndsWith}
use Rattle.std.specs.Io.KnownBytes.{Consumes, Keeps}
use Rattle.program_io.specs.Streams.{ReadsAll}
use Rattle.program_io.specs.declared.line.TheConstants.{MOST_LINE_BYTES}
use Rattle.program_io.specs.Endings.{IsCut, IsWritten}
use Rattle.clocks.specs.declared.drift.Drift.{Drift}
use Rattle.cluster.specs.continued.Jobs.{Continued}
use Rattle.job_calls.specs.declared.snapshot.ClusterSnapshot.{ClusterSnapshot}
use Rattle.snapshot_text.specs.Lines.{first_line}
use Rattle.snapshot_text.specs.Texts.{IsText}
use Rattle.audit_text.specs.Audits.{IsAudited}
use Rattle.log_line.specs.Readers.{IsReading, IsReadLog}
use Rattle.log_line.specs.declared.log_reader.LogReader.{LogReader}
use Rattle.log_line.specs.declared.log_reader.ReadLog.{ReadLog}
use Rattle.audit_text.specs.declared.auditing.AuditOptions.{AuditOptions}
use Rattle.audit_text.specs.declared.auditing.LogReport.{LogReport}
use Rattle.log_line.specs.Files.{IsLog, IsUnread, lines_from}
use Rattle.log_run.specs.Starts.{BeginsAt}
use Rattle.log_line.specs.declared.log.Log.{Log}
use Rattle.log_line.specs.declared.log.LogError.{LogError}
use Rattle.command.specs.declared.arguments.AuditFlags.{AuditFlags}
use Rattle.command.specs.declared.log_audit.AuditError.{AuditError}
use Rattle.command.specs.declared.log_audit.AuditError.TheVariants as audit
use Rattle.command.specs.declared.log_audit.OpenedLogs.{OpenedLogs}

-- the status where logs are not judged or traced: 2 where one cannot be opened or says no calls, or where the state, the drift or the key is
-- refused, and else 3
abbrev pub status_of : AuditError → ℕ
status_of (audit.Unopened name error) = 2
status_of (audit.Refused why) = 2
status_of (audit.BadState name why) = 2
status_of (audit.OtherState name fault) = 2
status_of (audit.NoDrift words) = 2
status_of (audit.NoKey option words fault) = 2
status_of _ = 3

-- the status where they are: 0 for one run, and else 1
abbrev pub status_for : Bool → ℕ
status_for one = if one then 0 else 1

-- the bytes after the last end of a line are this many
pub record EndsInLine (bytes : List ℕ) (many : ℕ) : Type 0 where
  pub before : List ℕ
  pub line : List ℕ
  pub parts : bytes ≡ before ++ line
  pub whole : IsEmptyOrEndsWith before 10
  pub unended : All (λ b. b ≢ 10) line
  pub length_is : many ≡ length line

-- a log was read up to a line that is too long: these are its first bytes, which end in more bytes without the end of a line than a line may have
pub record IsLogCut (before after : Option (List ℕ)) (bytes : List ℕ) : Type 0 where
  pub gave : Consumes before after bytes
  pub many : ℕ
  pub line : EndsInLine bytes many
  pub long : MOST_LINE_BYTES + 1 < many

-- a log has these bytes, all of them, or up to a line that is too long
abbrev pub IsLogBytes : Option (List ℕ) → Option (List ℕ) → List ℕ → Type 0
IsLogBytes before after bytes = ReadsAll before after bytes ⊎ IsLogCut before after bytes

-- how much of a log was read: all of it, or what `IsLogBytes` says
abbrev pub Reading : Type 1
Reading = (before after : Option (List ℕ)) → List ℕ → Type 0

module _ (Reads : Reading) where
  -- the log of this name has these bytes: `-` is what the input had left, and another one takes nothing of the input
  pub record IsLogRead (name : List ℕ) (before after : Option (List ℕ)) (bytes : List ℕ) : Type 0 where
    pub input : name ≡ codes "-" → Reads before after bytes
    pub other : name ≢ codes "-" → after ≡ before

  -- the logs of these names have these bytes, read one after another
  abbrev pub AreLogsRead : (names : List (List ℕ)) → (before after : Option (List ℕ)) → (files : List (List ℕ)) → Type 0
  AreLogsRead [] before after [] = after ≡ before
  AreLogsRead (name ∷ names) before after (bytes ∷ files) =
      (between : Option (List ℕ)) × IsLogRead name before between bytes × AreLogsRead names between after files
  AreLogsRead _ before after _ = ⊥

-- a state is a job line and the text of a snapshot
pub record IsState (bytes line : List ℕ) (s : ClusterSnapshot) : Type 0 where
  pub job_line : List ℕ
  pub text : List ℕ
  pub cut : first_line bytes ≡ Some (job_line, text)
  pub line_is : line ≡ job_line ++ 10 ∷ []
  pub says : IsText [] text s

-- the state of this name was read: its job line with the end of the line, and its snapshot
pub record IsStateRead (name : List ℕ) (before after : Option (List ℕ)) (line : List ℕ) (s : ClusterSnapshot) : Type 0 where
  pub bytes : List ℕ
  pub read : IsLogRead ReadsAll name before after bytes
  pub state : IsState bytes line s

module _ (Reads : Reading) where
  -- a state and the logs of these names were read; the first file is the job line of the state
  pub record AreReadOn (state : List ℕ) (names : List (List ℕ)) (before after : Option (List ℕ)) (files : List (List ℕ)) (earlier : Option ClusterSnapshot)
      : Type 0 where
    pub between : Option (List ℕ)
    pub line : List ℕ
    pub snapshot : ClusterSnapshot
    pub others : List (List ℕ)
    pub begins : IsStateRead state before between line snapshot
    pub is : earlier ≡ Some snapshot
    pub all : files ≡ line ∷ others
    pub read : AreLogsRead Reads names between after others

  -- the logs of these names were read, of which the first is a state if they go on from one
  abbrev pub AreRead : Bool → (names : List (List ℕ)) → (before after : Option (List ℕ)) → (files : List (List ℕ)) → Option ClusterSnapshot → Type 0
  AreRead true (state ∷ names) before after files earlier = AreReadOn state names before after files earlier
  AreRead true [] before after files earlier = (earlier ≡ None) × AreLogsRead Reads [] before after files
  AreRead false names before after files earlier = (earlier ≡ None) × AreLogsRead Reads names before after files

-- the bytes of a log were read, after these files
abbrev pub IsLogTaken : List (List ℕ) → (before after : Option (List ℕ)) → LogReader → Type 0
IsLogTaken files before after reader = (bytes : List ℕ) × IsLogBytes before after bytes × IsReading files bytes reader

-- a log more was read
abbrev pub IsOneMore : Reading → List (List ℕ) → (before after : Option (List ℕ)) → LogReader → Type 0
IsOneMore Reads files before after reader = (bytes : List ℕ) × Reads before after bytes × IsReading (files ++ bytes ∷ []) [] reader

-- the logs of these names were read, after these files
pub record AreLogsTaken (front : List (List ℕ)) (names : List (List ℕ)) (before after : Option (List ℕ)) (reader : LogReader) : Type 0 where
  pub files : List (List ℕ)
  pub read : AreLogsRead IsLogBytes names before after files
  pub reading : IsReading (front ++ files) [] reader

-- the logs of these names were read, and this is their log
pub record AreLogsKept (names : List (List ℕ)) (before after : Option (List ℕ)) (read_log : ReadLog) : Type 0 where
  pub files : List (List ℕ)
  pub read : AreLogsRead IsLogBytes names before after files
  pub log : IsReadLog (lines_from 0 files) read_log

-- the same, of which the first may be a state
pub record AreOpened (goes_on : Bool) (names : List (List ℕ)) (before after : Option (List ℕ)) (opened : OpenedLogs) : Type 0 where
  pub files : List (List ℕ)
  pub read : AreRead IsLogBytes goes_on names before after files opened.earlier
  pub log : IsReadLog (lines_from 0 files) opened.read

-- a log was not read: no log was refused, and nothing was to be written
abbrev pub IsNotRead : AuditError → Type 0
IsNotRead (audit.Refused why) = ⊥
IsNotRead audit.Write = ⊥
IsNotRead _ = ⊤

-- logs of these bytes say no calls, for this reason, or memory ran out
abbrev pub IsNotAudited : List (List ℕ) → AuditError → Type 0
IsNotAudited files (audit.Refused why) = IsUnread (lines_from 0 files) why
IsNotAudited files audit.Memory = ⊤
IsNotAudited files _ = ⊥

-- a drift as it is written: `EXTRA/PER/GRAIN`
abbrev pub drift_words : Drift → List ℕ
drift_words drift = decimal drift.extra ++ (codes "/" ++ (decimal drift.per ++ (codes "/" ++ decimal drift.grain)))

-- the drift that the words are; or they are none whose numbers are below 2^64
abbrev pub IsDriftOrNone : List ℕ → Option Drift → Type 0
IsDriftOrNone words (Some drift) = words ≡ drift_words drift
IsDriftOrNone words None = (drift : Drift) → drift.extra < 2 ^ 64 → drift.per < 2 ^ 64 → drift.grain < 2 ^ 64 → words ≢ drift_words drift

-- the drift that is given, if one is
abbrev pub IsDriftGiven : Option (Bor (List ℕ)) → Option Drift → Type 0
IsDriftGiven None given = given ≡ None
IsDriftGiven (Some words) given = (drift : Drift) × (given ≡ Some drift) × (words.now ≡ drift_words drift)

-- how these flags ask for logs to be judged
pub record AreOptionsOf (flags : AuditFlags) (options : AuditOptions) : Type 0 where
  pub all : options.all ≡ flags.all
  pub drift : IsDriftGiven flags.drift options.drift
  pub keeps : options.keeps ≡ flags.keeps

-- what is reported of a log that begins with its job, or goes on from this snapshot, whatever run that is one of
abbrev pub IsReportOn : (log : Log) (earlier : Option ClusterSnapshot) (names files : List (List ℕ)) → AuditOptions → LogReport → Type 0
IsReportOn log earlier names files options report = (job : Continued) → BeginsAt job log.job earlier → IsAudited job earlier names files options report

-- the logs of these names were read, and this is the report on them
pub record AreJudged (names : List (List ℕ)) (flags : AuditFlags) (before after : Option (List ℕ)) (report : LogReport) : Type 0 where
  pub options : AuditOptions
  pub given : AreOptionsOf flags options
  pub files : List (List ℕ)
  pub earlier : Option ClusterSnapshot
  pub read : AreRead IsLogBytes flags.goes_on names before after files earlier
  pub log : Log
  pub says : IsLog (lines_from 0 files) log
  pub audited : IsReportOn log earlier names files options report

-- or they say no calls, for this reason
pub record SayNoCalls (goes_on : Bool) (names : List (List ℕ)) (before after : Option (List ℕ)) (why : LogError) : Type 0 where
  pub files : List (List ℕ)
  pub earlier : Option ClusterSnapshot
  pub read : AreRead IsLogBytes goes_on names before after files earlier
  pub unread : IsUnread (lines_from 0 files) why

-- or nothing is known of them: one was not read, or memory ran out
abbrev pub AreNotJudged : Bool → List (List ℕ) → (before after : Option (List ℕ)) → AuditError → Type 0
AreNotJudged goes_on names before after (audit.Refused why) = SayNoCalls goes_on names before after why
AreNotJudged goes_on names before after audit.Write = ⊥
AreNotJudged goes_on names before after _ = ⊤

-- their state is not saved: memory ran out, or the file could not be written
abbrev pub IsNotSaved : AuditError → Type 0
IsNotSaved (audit.Unsaved name error) = ⊤
IsNotSaved audit.Memory = ⊤
IsNotSaved _ = ⊥

-- logs pass where their calls are one run and the law of fencing tokens rules out no write, and in a strict audit only with timely clocks that kept
-- the drift
abbrev pub passes : Bool → LogReport → Bool
passes strict report = report.is_fenced && (if strict then report.is_timely && report.keeps_drift else report.is_one)

module _ (names : List (List ℕ)) (flags : AuditFlags) (before after : Option (List ℕ)) where
  -- the logs of these names were read to their ends, this is the report on them all, and they pass or not
  pub record IsReport (passed : Bool) (text : List ℕ) : Type 0 where
    pub files : List (List ℕ)
    pub earlier : Option ClusterSnapshot
    pub read : AreRead ReadsAll flags.goes_on names before after files earlier
    pub options : AuditOptions
    pub given : AreOptionsOf flags options
    pub log : Log
    pub says : IsLog (lines_from 0 files) log
    pub report : LogReport
    pub audited : IsReportOn log earlier names files options report
    pub text_is : text ≡ string_bytes report.text
    pub verdict : passed ≡ passes flags.strict report

  abbrev pub IsSomeReport : List ℕ → Type 0
  IsSomeReport text = (passed : Bool) × IsReport passed text

module _ (names : List (List ℕ)) (flags : AuditFlags) (before after held holds : Option (List ℕ)) where
  -- it was written
  abbrev pub IsJudged : Bool → Type 0
  IsJudged passed = IsWritten (IsReport names flags before after passed) held holds

  -- the logs were read, up to a line that is too long where there is one, and say no calls, for this reason, and nothing was written
  pub record IsRefused (why : LogError) : Type 0 where
    pub files : List (List ℕ)
    pub earlier : Option ClusterSnapshot
    pub read : AreRead IsLogBytes flags.goes_on names before after files earlier
    pub unread : IsUnread (lines_from 0 files) why
    pub kept : Keeps held holds

  -- what was read and written where they are not judged
  abbrev pub IsUnjudged : AuditError → Type 0
  IsUnjudged (audit.Refused why) = IsRefused why
  IsUnjudged audit.Write = IsCut (IsSomeReport names flags before after) held holds
  IsUnjudged _ = Keeps held holds

  -- what was read and written by an audit, and the status that it exits with
  abbrev pub HasAnswer : Result Bool AuditError → ℕ → Type 0
  HasAnswer (Ok passed) code = IsJudged passed × (code ≡ status_for passed)
  HasAnswer (Err why) code = IsUnjudged why × (code ≡ status_of why)

  abbrev pub IsAuditEnd : ℕ → Type 0
  IsAuditEnd code = (answer : Result Bool AuditError) × HasAnswer answer code
