-- What the files of a log say: a job on the first line of a file that counts, of one file or several, and a call or a write on each other line.
use Rattle.std.specs.Prelude.{◌≡◌, ◌⊎◌, ℕ, ◌+◌, ◌==◌, ⊤, Bool, true, false, not, List, [], ◌∷◌, ◌++◌, filter, Option, Some, None, Ok, if◌then◌else◌}
use Rattle.std.specs.List.{AllByRecursion}
use Rattle.job_calls.specs.Jobs.{Job}
use Rattle.serde_json.specs.Data.{Data}
use Rattle.program_io.specs.declared.fault.Fault.TheVariants as fault
use Rattle.program_io.specs.Json.{HasRepeatedMember, IsNoJson, IsStrictJson}
use Rattle.program_io.specs.Lines.{is_blank, is_long}
use Rattle.replies.specs.Jobs.{job_member}
use Rattle.faults.specs.Faults.{AnswerError}
use Rattle.faults.specs.JobLines.{SaysJob, IsNoJob, HasNoJob}
use Rattle.wire.specs.declared.fault.DecodeRefusal.{DecodeRefusal}
use Rattle.log_line.specs.declared.entry.LogEntry.{LogEntry}
use Rattle.log_line.specs.declared.entry.WriteEntry.{WriteEntry}
use Rattle.log_line.specs.declared.entry.LinePosition.{LinePosition}
use Rattle.log_line.specs.declared.log.Log.{Log}
use Rattle.log_line.specs.declared.log.LogError.{LogError}
use Rattle.log_line.specs.declared.log.LogError.TheVariants as unread
use Rattle.log_line.specs.Lines.{SaysLine, SaysNoLine, SaysWrite}

-- LINES

-- a line without its end, and whether its end, byte 10, stands after it: only the last line of a file may lack it
pub record FileLine : Type 0 where
  pub bytes : List ℕ
  pub ended : Bool

abbrev pub line_with : List ℕ → Bool → FileLine
line_with bytes ended = record { bytes = bytes; ended = ended }

-- a byte more in front of lines
abbrev pub in_front : ℕ → List FileLine → List FileLine
in_front byte [] = line_with (byte ∷ []) false ∷ []
in_front byte (line ∷ lines) = line_with (byte ∷ line.bytes) line.ended ∷ lines

-- the lines of bytes
abbrev pub lines_in : List ℕ → List FileLine
lines_in [] = []
lines_in (byte ∷ bytes) = if byte == 10 then line_with [] true ∷ lines_in bytes else in_front byte (lines_in bytes)

-- a line at its place
pub record PlacedLine : Type 0 where
  pub place : LinePosition
  pub bytes : List ℕ
  pub ended : Bool

abbrev pub place_at : ℕ → ℕ → LinePosition
place_at file line = record { file = file; line = line }

abbrev pub placed : LinePosition → FileLine → PlacedLine
placed place line = record { place = place; bytes = line.bytes; ended = line.ended }

-- lines of a file, the first of which has this number
abbrev pub numbered : ℕ → ℕ → List FileLine → List PlacedLine
numbered file number [] = []
numbered file number (line ∷ lines) = placed (place_at file number) line ∷ numbered file (number + 1) lines

-- the lines of files, the first of which has this number
abbrev pub lines_from : ℕ → List (List ℕ) → List PlacedLine
lines_from file [] = []
lines_from file (bytes ∷ files) = numbered file 1 (lines_in bytes) ++ lines_from (file + 1) files

-- no line is longer than a line may be
abbrev pub AreShort : List PlacedLine → Type 0
AreShort lines = AllByRecursion (λ line. is_long line.bytes ≡ false) lines

-- the lines that count: those that are not blank
abbrev pub counted : List PlacedLine → List PlacedLine
counted lines = filter (λ line. not (is_blank line.bytes)) lines

-- THE JOB

-- the line is a JSON text of an object whose one member is `job`
pub record HasJobMember (bytes : List ℕ) : Type 0 where
  pub value : Data
  pub json : IsStrictJson bytes value
  pub member : Data
  pub has : job_member value ≡ Ok member

-- the line is no such text
abbrev pub HasNoJobMember : List ℕ → Type 0
HasNoJobMember bytes = IsNoJson bytes ⊎ HasRepeatedMember bytes ⊎ HasNoJob bytes

-- the line is the first of its file, where the line before it is of this file
abbrev pub begins_file : Option ℕ → PlacedLine → Bool
begins_file (Some before) line = not (before == line.place.file)
begins_file None line = true

-- a job line begins its file and has a job, and another line does not
abbrev pub IsJobLine : Option ℕ → PlacedLine → Bool → Type 0
IsJobLine before line true = (begins_file before line ≡ true) × HasJobMember line.bytes
IsJobLine before line false = (begins_file before line ≡ false) ⊎ HasNoJobMember line.bytes

-- of some lines, after one of this file, these are the job lines, and these the others, both in order
abbrev pub AreParted : Option ℕ → List PlacedLine → List PlacedLine → List PlacedLine → Type 0
AreParted before [] jobs others = (jobs ≡ []) × (others ≡ [])
AreParted before (line ∷ lines) jobs others =
    ((later : List PlacedLine) × (jobs ≡ line ∷ later) × IsJobLine before line true × AreParted (Some line.place.file) lines later others)
    ⊎ ((later : List PlacedLine) × (others ≡ line ∷ later) × IsJobLine before line false × AreParted (Some line.place.file) lines jobs later)

-- each of some lines says this job
abbrev pub AreOfJob : List PlacedLine → Job → Type 0
AreOfJob lines job = AllByRecursion (λ line. SaysJob line.bytes job) lines

-- some lines say one job, where there are any
abbrev pub HaveOneJob : List PlacedLine → Type 0
HaveOneJob [] = ⊤
HaveOneJob (line ∷ lines) = (job : Job) × AreOfJob (line ∷ lines) job

-- the lines before this place say one job, and the one that stands there says none, for this error
pub record IsBadJob (jobs : List PlacedLine) (place : LinePosition) (error : AnswerError) : Type 0 where
  pub before : List PlacedLine
  pub line : PlacedLine
  pub later : List PlacedLine
  pub whole : jobs ≡ before ++ line ∷ later
  pub same : HaveOneJob before
  pub at : line.place ≡ place
  pub says : IsNoJob line.bytes error

-- the lines before the second place say one job, the first of them stands at the first place, and the one at the second place says another
pub record AreOtherJobs (jobs : List PlacedLine) (first second : LinePosition) : Type 0 where
  pub head : PlacedLine
  pub before : List PlacedLine
  pub line : PlacedLine
  pub later : List PlacedLine
  pub whole : jobs ≡ (head ∷ before) ++ line ∷ later
  pub job : Job
  pub same : AreOfJob (head ∷ before) job
  pub at_head : head.place ≡ first
  pub at : line.place ≡ second
  pub other : Job
  pub says : SaysJob line.bytes other
  pub differs : other ≡ job → ⊥

-- THE CALLS AND THE WRITES

-- each entry is what the line at its place says
pub record IsSaid (line : PlacedLine) (entry : LogEntry) : Type 0 where
  pub same_place : entry.place ≡ line.place
  pub says : SaysLine line.bytes entry.line

pub record IsWritten (line : PlacedLine) (entry : WriteEntry) : Type 0 where
  pub same_place : entry.place ≡ line.place
  pub says : SaysWrite line.bytes entry.write

-- a last line without its end says nothing: its writer may have stopped in the middle of it
pub record IsTorn (line : PlacedLine) : Type 0 where
  pub unended : line.ended ≡ false
  pub why : DecodeRefusal
  pub says : SaysNoLine line.bytes why

-- lines say calls, which are these entries, and writes, both in order, but for those at these places, which are torn and left out
abbrev pub AreSaid : List PlacedLine → List LogEntry → List WriteEntry → List LinePosition → Type 0
AreSaid [] [] [] [] = ⊤
AreSaid [] _ _ _ = ⊥
AreSaid (line ∷ lines) entries writes torn =
    ((entry : LogEntry) × (later : List LogEntry) × (entries ≡ entry ∷ later) × IsSaid line entry × AreSaid lines later writes torn)
    ⊎ ((entry : WriteEntry) × (later : List WriteEntry) × (writes ≡ entry ∷ later) × IsWritten line entry × AreSaid lines entries later torn)
    ⊎ ((later : List LinePosition) × (torn ≡ line.place ∷ later) × IsTorn line × AreSaid lines entries writes later)

-- the lines before this place say calls and writes, or are torn, and the one that stands there says neither, for this reason
pub record IsBadLine (lines : List PlacedLine) (place : LinePosition) (why : DecodeRefusal) : Type 0 where
  pub before : List PlacedLine
  pub line : PlacedLine
  pub later : List PlacedLine
  pub whole : lines ≡ before ++ line ∷ later
  pub entries : List LogEntry
  pub writes : List WriteEntry
  pub torn : List LinePosition
  pub said : AreSaid before entries writes torn
  pub at : line.place ≡ place
  pub ended : line.ended ≡ true
  pub says : SaysNoLine line.bytes why

-- a log: no line is too long; a first line of a file that has a job says the job of the log, there is such a line, and the others say calls
-- and writes, in the order of the lines
pub record IsLog (lines : List PlacedLine) (log : Log) : Type 0 where
  pub short : AreShort lines
  pub jobs : List PlacedLine
  pub others : List PlacedLine
  pub parted : AreParted None (counted lines) jobs others
  pub some : jobs ≡ [] → ⊥
  pub job : AreOfJob jobs log.job
  pub writes : List WriteEntry
  pub calls : AreSaid others log.entries.items writes log.torn.items

-- the lines before this place are short, and the one that stands there is too long
pub record HasLongLine (lines : List PlacedLine) (place : LinePosition) : Type 0 where
  pub before : List PlacedLine
  pub line : PlacedLine
  pub later : List PlacedLine
  pub whole : lines ≡ before ++ line ∷ later
  pub short : AreShort before
  pub at : line.place ≡ place
  pub long : is_long line.bytes ≡ true

-- no file begins with a job, and the first line is at this place, and no job for this error
pub record HasNoHead (lines : List PlacedLine) (place : LinePosition) (error : AnswerError) : Type 0 where
  pub first : PlacedLine
  pub later : List PlacedLine
  pub whole : lines ≡ first ∷ later
  pub at : first.place ≡ place
  pub says : IsNoJob first.bytes error

-- what is wrong with job lines: there are none, or one says no job
abbrev pub IsNoHead : List PlacedLine → List PlacedLine → LinePosition → AnswerError → Type 0
IsNoHead lines jobs place error = ((jobs ≡ []) × HasNoHead lines place error) ⊎ IsBadJob jobs place error

-- no job is said, for this error
pub record HasBadHead (lines : List PlacedLine) (place : LinePosition) (error : AnswerError) : Type 0 where
  pub jobs : List PlacedLine
  pub others : List PlacedLine
  pub parted : AreParted None lines jobs others
  pub none : IsNoHead lines jobs place error

-- two job lines say different jobs
pub record HasOtherJobs (lines : List PlacedLine) (first second : LinePosition) : Type 0 where
  pub jobs : List PlacedLine
  pub others : List PlacedLine
  pub parted : AreParted None lines jobs others
  pub differ : AreOtherJobs jobs first second

-- the job lines say one job, and another line neither a call nor a write
pub record HasBadCall (lines : List PlacedLine) (place : LinePosition) (why : DecodeRefusal) : Type 0 where
  pub jobs : List PlacedLine
  pub others : List PlacedLine
  pub parted : AreParted None lines jobs others
  pub some : jobs ≡ [] → ⊥
  pub job : Job
  pub same : AreOfJob jobs job
  pub bad : IsBadLine others place why

-- why no log was read: the first line that is too long, or else what is wrong with its job lines, or else the first other line that counts
-- and says neither a call nor a write, or memory ran out
abbrev pub IsUnread : List PlacedLine → LogError → Type 0
IsUnread lines unread.Empty = AreShort lines × (counted lines ≡ [])
IsUnread lines (unread.LongLine place) = HasLongLine lines place
IsUnread lines (unread.NoJob place faults) = AreShort lines × HasBadHead (counted lines) place (fault.Input faults)
IsUnread lines (unread.OtherJob first second) = AreShort lines × HasOtherJobs (counted lines) first second
IsUnread lines (unread.BadLine place why mend) = AreShort lines × HasBadCall (counted lines) place why
IsUnread lines unread.Memory = ⊤
