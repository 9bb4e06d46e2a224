-- What a reader of a log holds of the lines that it has read.
use Rattle.std.specs.Prelude.{◌≡◌, ℕ, ◌==◌, Bool, true, false, List, [], ◌∷◌, ◌++◌, map, length, Option, Some, None}
use Rattle.std.specs.List.{AllByRecursion}
use Rattle.log_line.specs.declared.call_lines.BadLine.{BadLine}
use Rattle.log_line.specs.declared.call_lines.CallLines.{CallLines}
use Rattle.log_line.specs.declared.entry.LinePosition.{LinePosition}
use Rattle.log_line.specs.declared.job_lines.JobLines.{JobLines}
use Rattle.log_line.specs.declared.lines.KeptLine.{KeptLine}
use Rattle.log_line.specs.declared.lines.LineBytes.{LineBytes}
use Rattle.log_line.specs.declared.log_reader.LogReader.{LogReader}
use Rattle.log_line.specs.declared.log_reader.ReadLog.{ReadLog}
use Rattle.log_line.specs.declared.log_reader.TakenLines.{TakenLines}
use Rattle.log_line.specs.Files.{PlacedLine, AreParted, AreSaid, AreShort, HasLongLine, IsBadLine, IsLog, counted, lines_from, lines_in, numbered}

-- the line of a slice of bytes, and one that is kept
abbrev pub shown : LineBytes → PlacedLine
shown l = record { place = l.place; bytes = l.bytes.now; ended = l.ended }

abbrev pub kept : KeptLine → PlacedLine
kept l = record { place = l.place; bytes = l.bytes.items; ended = l.ended }

-- the file of the last of some lines, or of the one before them
abbrev pub file_after : Option ℕ → List PlacedLine → Option ℕ
file_after before [] = before
file_after before (line ∷ lines) = file_after (Some line.place.file) lines

-- this is the first of some lines, where there are any
abbrev pub IsFirst : List PlacedLine → Option KeptLine → Type 0
IsFirst lines None = lines ≡ []
IsFirst lines (Some first) = (later : List PlacedLine) × (lines ≡ kept first ∷ later)

-- the other lines with one line more, unless it is a job line
abbrev pub others_with : List PlacedLine → PlacedLine → Bool → List PlacedLine
others_with others line true = others
others_with others line false = others ++ line ∷ []

-- the job lines among lines that count, of which these are the others
pub record AreJobLines (lines others : List PlacedLine) (taken : JobLines) : Type 0 where
  pub first : IsFirst lines taken.first
  pub before : taken.before ≡ file_after None lines
  pub parted : AreParted None lines (map kept taken.jobs.items) others

-- what lines say: calls and writes, or a first one neither
abbrev pub AreCallsUpTo : List PlacedLine → CallLines → Option BadLine → Type 0
AreCallsUpTo lines taken None = AreSaid lines taken.entries.items taken.writes.items taken.torn.items
AreCallsUpTo lines taken (Some bad) = IsBadLine lines bad.place bad.why

abbrev pub AreCallLines : List PlacedLine → CallLines → Type 0
AreCallLines lines taken = AreCallsUpTo lines taken taken.bad

-- lines that are short: the job lines among them, and what the others say
pub record AreShortLines (lines : List PlacedLine) (taken : TakenLines) : Type 0 where
  pub short : AreShort lines
  pub others : List PlacedLine
  pub jobs : AreJobLines (counted lines) others taken.jobs
  pub calls : AreCallLines others taken.calls

abbrev pub AreTakenUpTo : List PlacedLine → TakenLines → Option LinePosition → Type 0
AreTakenUpTo lines taken None = AreShortLines lines taken
AreTakenUpTo lines taken (Some place) = HasLongLine lines place

-- lines, up to the first that is too long
abbrev pub AreTaken : List PlacedLine → TakenLines → Type 0
AreTaken lines taken = AreTakenUpTo lines taken taken.long

-- some files were read, and these bytes of the next one, of which the last are of a line that has not ended; whatever comes next, the lines of
-- the files are those that were taken, and those of these last bytes with what comes next
pub record IsReading (files : List (List ℕ)) (bytes : List ℕ) (reader : LogReader) : Type 0 where
  pub count : reader.file ≡ length files
  pub ended : List ℕ
  pub parts : bytes ≡ ended ++ reader.part.items
  pub unended : AllByRecursion (λ b. (b == 10) ≡ false) reader.part.items
  pub lines : List PlacedLine
  pub taken : AreTaken lines reader.taken
  pub ahead : (next : List ℕ) → lines_from 0 (files ++ (bytes ++ next) ∷ []) ≡ lines ++ numbered reader.file reader.number (lines_in (reader.part.items ++ next))

-- the bytes of the first of some lines, none if there is none
abbrev pub first_bytes : List PlacedLine → List ℕ
first_bytes [] = []
first_bytes (line ∷ lines) = line.bytes

-- lines are this log, these are its writes, and this is its first job line
pub record IsReadLog (lines : List PlacedLine) (read : ReadLog) : Type 0 where
  pub log : IsLog lines read.log
  pub writes : log.writes ≡ read.writes.items
  pub jobs : List PlacedLine
  pub others : List PlacedLine
  pub parted : AreParted None (counted lines) jobs others
  pub job_line : read.job_line.items ≡ first_bytes jobs
