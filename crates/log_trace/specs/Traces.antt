-- The trace of a log.
use Rattle.std.specs.Prelude.{◌≡◌, ◌⊎◌, ℕ, ◌+◌, List, [], ◌∷◌, length, reverse, take, if◌then◌else◌}
use Rattle.cluster.specs.Pasts.{Past}
use Rattle.cluster.specs.continued.Jobs.{Continued}
use Rattle.cluster.specs.continued.Runs.{IsRun}
use Rattle.reasons.specs.Placed.{Placed}
use Rattle.log_line.specs.declared.entry.LogEntry.{LogEntry}
use Rattle.log_causes.specs.declared.comparing.TheConstants.{MOST_WRONG_REPLIES}
use Rattle.log_trace.specs.declared.line.LogLine.{LogLine}
use Rattle.log_trace.specs.declared.trace.LogTrace.{LogTrace}
use Rattle.log_trace.specs.Calls.{AreMadeAt}
use Rattle.log_trace.specs.Lines.{IsLine}

-- a line for each of these entries, both newest first: it is that of its entry after the calls before it, which led to this past
abbrev pub AreLines : Continued → List LogEntry → List LogEntry → Past → List Placed → List LogLine → Type 0
AreLines job entries [] past placed [] = (past ≡ job.earlier) × (placed ≡ [])
AreLines job entries (entry ∷ before) past placed (line ∷ lines) =
    (earlier : Past) × (placed_before : List Placed) × IsLine job entries (length before) entry earlier placed_before past line
    × AreMadeAt (length before + 1) earlier placed_before past placed × AreLines job entries before earlier placed_before lines
AreLines job entries _ past placed _ = ⊥

-- the lines before the first one whose caller was told otherwise
abbrev pub right_lines : List LogLine → List LogLine
right_lines [] = []
right_lines (line ∷ lines) = if line.is_told then line ∷ right_lines lines else []

-- the lines whose callers were told otherwise
abbrev pub wrong_lines : List LogLine → List LogLine
wrong_lines [] = []
wrong_lines (line ∷ lines) = if line.is_told then wrong_lines lines else line ∷ wrong_lines lines

-- these are the right lines and the wrong ones among all
pub record AreToldIn (all : List LogLine) (trace : LogTrace) : Type 0 where
  pub right : trace.lines.items ≡ right_lines all
  pub wrong : trace.faults.items ≡ wrong_lines all

-- the machines played the first entries from the start on, all of them or those up to the last wrong reply that is told; there is a line for each
pub record IsTraceOf (job : Continued) (entries : List LogEntry) (trace : LogTrace) : Type 0 where
  pub played : ℕ
  pub past : Past
  pub placed : List Placed
  pub all : List LogLine
  pub lines : AreLines job entries (reverse (take played entries)) past placed (reverse all)
  pub run : IsRun job past
  pub told : AreToldIn all trace
  pub enough : (played ≡ length entries) ⊎ (length trace.faults.items ≡ MOST_WRONG_REPLIES)
