-- The text of the trace of logs.
use Rattle.std.specs.Prelude.{◌≡◌, ℕ, Bool, List, ◌++◌, map, Option, option_map}
use Rattle.std.specs.Ordering.{nat_cmp}
use Rattle.std.specs.List.Sorted.{IsPermutation, IsStableByKey}
use Rattle.clocks.specs.declared.drift.Drift.{Drift}
use Rattle.cluster.specs.continued.Jobs.{Continued}
use Rattle.job_calls.specs.Jobs.{Job}
use Rattle.job_calls.specs.declared.snapshot.ClusterSnapshot.{ClusterSnapshot}
use Rattle.log_line.specs.declared.entry.LinePosition.{LinePosition}
use Rattle.log_line.specs.declared.entry.LogEntry.{LogEntry}
use Rattle.log_line.specs.declared.log.Log.{Log}
use Rattle.log_run.specs.declared.start.Start.{Start}
use Rattle.log_causes.specs.declared.judging.Found.{Found}
use Rattle.log_causes.specs.Audited.{AreSent, IsFound, is_one}
use Rattle.reason_values.specs.declared.place.LogLine.{LogLine}
use Rattle.reason_values.specs.Lines.{line_text}
use Rattle.trace_ends.specs.Heads.{logs_head_data}
use Rattle.log_trace_text.specs.declared.played.Played.{Played}
use Rattle.log_trace_text.specs.declared.traced.TraceOptions.{TraceOptions}
use Rattle.log_trace_text.specs.declared.traced.TracedLog.{TracedLog}
use Rattle.log_trace_text.specs.Endings.{IsEndLine}
use Rattle.log_trace_text.specs.Places.{place_at, places_of}
use Rattle.log_trace_text.specs.Texts.{ArePlayed, lines_between}

-- which trace is wanted: with the stretches of a key, which may have been given by its text, with or without the calls, and by a drift
pub record Wanted : Type 0 where
  pub key : Option (List ℕ)
  pub slice_key : Option ℕ
  pub with_calls : Bool
  pub drift : Option Drift

abbrev pub wanted_by : TraceOptions → Wanted
wanted_by options = record {
  key = option_map (λ k. k.now) options.key;
  slice_key = options.slice_key;
  with_calls = options.with_calls;
  drift = options.drift;
}

-- the first line of logs of a job, with these names, of which these last lines were left out
abbrev pub head_text : Job → List (List ℕ) → List LinePosition → Option ℕ → Option (List ℕ) → List ℕ
head_text job names torn slice_key key = line_text (logs_head_data job names (map place_at torn) slice_key key)

-- the lines after the first one: what the machines tell of the entries, and the last line by what was found
pub record AreLinesAfter (job : Continued) (start : Start) (entries : List LogEntry) (found : Found) (key : Option ℕ) (with_calls : Bool) (drift : Option Drift)
    (text : List ℕ) : Type 0 where
  pub played : Played
  pub plays : ArePlayed job start entries found.finding key with_calls played
  pub last : List ℕ
  pub ends : IsEndLine job start (places_of entries) entries found.finding found.all_sent drift last
  pub lines : text ≡ lines_between (places_of entries) entries with_calls played ++ last

-- the trace of a log: this is found of its calls in the order of their tickets, where equal tickets stay in the order of their lines, and the text
-- is the first line and those that tell of the calls
pub record IsLogTraceText (job : Continued) (log : Log) (earlier : Option ClusterSnapshot) (names : List (List ℕ)) (wanted : Wanted) (traced : TracedLog)
    : Type 0 where
  pub ordered : List LogEntry
  pub same : IsPermutation log.entries.items ordered
  pub stable : IsStableByKey (λ e. e.line.ticket) nat_cmp log.entries.items ordered
  pub found : Found
  pub judged : IsFound job ordered found.finding
  pub sent : AreSent job ordered found.finding found.all_sent
  pub one : traced.is_one ≡ is_one found.finding
  pub torn : traced.torn.items ≡ log.torn.items
  pub after : List ℕ
  pub tells : AreLinesAfter job (record { job = log.job; earlier = earlier }) ordered found wanted.slice_key wanted.with_calls wanted.drift after
  pub text : traced.text.items ≡ head_text log.job names log.torn.items wanted.slice_key wanted.key ++ after
