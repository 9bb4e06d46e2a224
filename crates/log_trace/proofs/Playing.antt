-- Entries that a tracer plays one after another.
use Rattle.std.proofs.Common.{◌≡◌, ◌∙◌, ℕ, ◌+◌, ◌<◌, max, List, [], ◌∷◌, ◌++◌, length, get_or, take, reverse, sym, ap, subst, arith}
use Rattle.std.specs.Prelude.{Option, Some, None, slice_get}
use Rattle.std.proofs.lemmas.Option.{get_or_from_slice_get}
use Rattle.std.proofs.lemmas.List.{length-reverse, length-take-le, reverse-append}
use Rattle.job_calls.specs.Jobs.{Job}
use Rattle.job_calls.specs.declared.snapshot.ClusterSnapshot.{ClusterSnapshot}
use Rattle.job_calls.specs.declared.timing.Reading.TheVariants.{TableClock}
use Rattle.cluster.specs.continued.Jobs.{Continued, job_in}
use Rattle.cluster.specs.Pasts.{Past}
use Rattle.cluster.specs.Timing.{greatest_reading}
use Rattle.reasons.specs.Placed.{Placed}
use Rattle.log_line.specs.declared.told.CallerReply.{CallerReply}
use Rattle.log_line.specs.declared.entry.LogEntry.{LogEntry}
use Rattle.log_run.specs.Played.{StandsFor}
use Rattle.log_run.specs.Starts.{BeginsAt}
use Rattle.log_run.proofs.Replaying.{one_more}
use Rattle.log_trace.specs.declared.line.LogLine.{LogLine}
use Rattle.log_trace.specs.Calls.{AreCallsAt, AreMadeAt}
use Rattle.log_trace.specs.Lines.{IsLine}
use Rattle.log_trace.specs.Traces.{AreLines}

-- a job that goes on is the same job
pub same_job : (job : Continued) (own : Job) (earlier : Option ClusterSnapshot) → BeginsAt job own earlier → job_in job ≡ own
same_job job own None begins = ap job_in begins
same_job job own (Some s) begins = ap job_in begins.is

-- before the first entry the greatest reading is that of earlier logs
max_zero : (n : ℕ) → max n 0 ≡ n
max_zero n = omega arith

pub first_greatest : (n : ℕ) → n ≡ greatest_reading (TableClock n ∷ [])
first_greatest n = sym (max_zero n)

module _ (entries : List LogEntry) (i : ℕ) (entry : LogEntry) (low : i < length entries) (here : entry ≡ get_or entries i entry) where
  before_are : length (reverse (take i entries)) ≡ i
  before_are = length-reverse (take i entries) ∙ length-take-le i entries (omega (arith, low))

  module _ (job : Continued) (past after : Past) (placed placed_after : List Placed) (at : AreMadeAt (i + 1) past placed after placed_after) where
    made_at : AreMadeAt (length (reverse (take i entries)) + 1) past placed after placed_after
    made_at = subst (λ (n : ℕ). AreMadeAt (n + 1) past placed after placed_after) (sym before_are) at

    -- the calls of one entry more
    pub calls_more : (told : CallerReply) → StandsFor (job_in job) past entry.line.call told after → AreCallsAt job (reverse (take i entries)) placed past
        → AreCallsAt job (reverse (take (i + 1) entries)) placed_after after
    calls_more told stands calls = subst (λ (es : List LogEntry). AreCallsAt job es placed_after after) (sym (one_more entries i entry low here))
        (past, placed, told, stands, made_at, calls)

    -- one line more
    pub lines_more : (all : List LogLine) (line : LogLine) → IsLine job entries i entry past placed after line
        → AreLines job entries (reverse (take i entries)) past placed (reverse all)
        → AreLines job entries (reverse (take (i + 1) entries)) after placed_after (reverse (all ++ line ∷ []))
    lines_more all line tells lines =
        subst (λ (ls : List LogLine). AreLines job entries (reverse (take (i + 1) entries)) after placed_after ls) (sym (reverse-append all (line ∷ [])))
        (subst (λ (es : List LogEntry). AreLines job entries es after placed_after (line ∷ reverse all)) (sym (one_more entries i entry low here))
        (past, placed, subst (λ (n : ℕ). IsLine job entries n entry past placed after line) (sym before_are) tells, made_at, lines))

-- the same by the entry at the index
module _ (entries : List LogEntry) (i : ℕ) (entry : LogEntry) (low : i < length entries) (here : slice_get entries i ≡ Some entry) where
  pub lines_more_at : (job : Continued) (past after : Past) (placed placed_after : List Placed) → AreMadeAt (i + 1) past placed after placed_after → (all : List LogLine) (line : LogLine)
      → IsLine job entries i entry past placed after line → AreLines job entries (reverse (take i entries)) past placed (reverse all)
      → AreLines job entries (reverse (take (i + 1) entries)) after placed_after (reverse (all ++ line ∷ []))
  lines_more_at job past after placed placed_after at all line tells lines =
      lines_more entries i entry low (sym (get_or_from_slice_get entries i entry entry here)) job past after placed placed_after at all line tells lines
