-- What the last line tells of logs.
use Rattle.std.specs.Prelude.{◌≡◌, ℕ, ◌+◌, ◌&&◌, not, Bool, List, [], ◌∷◌, length, map, Option, Some, None, MatchOption, is_some, option_map, slice_get}
use Rattle.clocks.specs.declared.drift.Drift.{Drift}
use Rattle.job_calls.specs.Jobs.{Job}
use Rattle.job_calls.specs.declared.timing.Reading.{Reading}
use Rattle.job_calls.specs.declared.timing.Reading.TheVariants.{TableClock}
use Rattle.cluster.specs.Pasts.{readings}
use Rattle.cluster.specs.Timing.{greatest_reading}
use Rattle.cluster.specs.continued.Jobs.{Continued}
use Rattle.reasons.specs.declared.untimely.UntimelyReadings.{UntimelyReadings}
use Rattle.reasons.specs.Untimely.{AreTimely, IsFirstUntimely}
use Rattle.log_line.specs.declared.entry.LogEntry.{LogEntry}
use Rattle.log_line.specs.Calls.{reading_in}
use Rattle.log_run.specs.declared.drift.ClockFault.{ClockFault}
use Rattle.log_run.specs.declared.drift.ClockFault.TheVariants as clock
use Rattle.log_run.specs.declared.drift.DriftFault.{DriftFault}
use Rattle.log_run.specs.declared.start.Start.{Start}
use Rattle.log_run.specs.Drifts.{IsDriftFinding}
use Rattle.log_causes.specs.declared.callers.CountedCalls.{CountedCalls}
use Rattle.log_causes.specs.declared.finding.Finding.{Finding}
use Rattle.log_causes.specs.declared.finding.Finding.TheVariants.{One, Double, Other}
use Rattle.log_causes.specs.declared.hint.MissingOpen.{MissingOpen}
use Rattle.log_causes.specs.declared.hints.Hints.{Hints as Lacking}
use Rattle.log_causes.specs.declared.missing.MissingGrants.{MissingGrants}
use Rattle.log_causes.specs.Callers.{clerk_counts, silent_tasks, table_count, task_counts}
use Rattle.log_causes.specs.Coarse.{coarse_count}
use Rattle.log_causes.specs.Hints.{AreHints}
use Rattle.reason_values.specs.declared.place.LogLine.{LogLine}
use Rattle.reason_values.specs.Lines.{line_text}
use Rattle.trace_ends.specs.declared.drift.DriftFound.{DriftFound}
use Rattle.trace_ends.specs.declared.drift.DriftFound.TheVariants.{Kept, Wrong}
use Rattle.trace_ends.specs.declared.drift.SampleFault.{SampleFault}
use Rattle.trace_ends.specs.declared.drift.SampleFault.TheVariants as sample
use Rattle.trace_ends.specs.declared.drift.WrongSample.{WrongSample}
use Rattle.trace_ends.specs.declared.end.ActorCalls.{ActorCalls}
use Rattle.trace_ends.specs.declared.end.Counts.{Counts}
use Rattle.trace_ends.specs.declared.end.OneRun.{OneRun}
use Rattle.trace_ends.specs.declared.hints.GrantsHint.{GrantsHint}
use Rattle.trace_ends.specs.declared.hints.Hints.{Hints}
use Rattle.trace_ends.specs.declared.hints.OpenHint.{OpenHint}
use Rattle.trace_ends.specs.Ends.{double_end_data, one_end_data, other_end_data}
use Rattle.log_trace_text.specs.Calls.{number_of}

-- COUNTS

abbrev pub actor_of : CountedCalls → ActorCalls
actor_of taken = record { actor = taken.number; calls = taken.calls }

-- how many calls each actor of a job took
pub record AreCountsOf (job : Job) (entries : List LogEntry) (counts : Counts) : Type 0 where
  pub table : counts.table ≡ table_count entries
  pub tasks : counts.tasks.items ≡ map actor_of (task_counts job entries)
  pub clerks : counts.clerks.items ≡ map actor_of (clerk_counts job entries)

-- CLOCKS

abbrev pub reading_of : LogEntry → Reading
reading_of entry = reading_in entry.line.call

-- the greatest reading of the table's clock in earlier logs, and then what the entries read
abbrev pub readings_of : Continued → List LogEntry → List Reading
readings_of job entries = TableClock (greatest_reading (readings job.earlier)) ∷ map reading_of entries

-- the entries are timely, or these are the readings by which they are not
abbrev pub AreUntimelyOf : Continued → List LogEntry → Option UntimelyReadings → Type 0
AreUntimelyOf job entries untimely = MatchOption untimely (AreTimely job.policy.skew (readings_of job entries) (length entries + 1))
    (IsFirstUntimely job.policy.skew (readings_of job entries))

abbrev pub sample_fault_of : ClockFault → SampleFault
sample_fault_of clock.Back = sample.Back
sample_fault_of clock.SentAhead = sample.Ahead
sample_fault_of (clock.Beyond most) = sample.Beyond most

-- the sample of an entry, which stands at its number
abbrev pub wrong_sample_of : DriftFault → WrongSample
wrong_sample_of fault = record {
  call = fault.index + 1;
  sent = fault.taken.sample.sent;
  reading = fault.taken.sample.reading;
  now = fault.taken.now;
  why = sample_fault_of fault.why;
}

abbrev pub drift_of : Option DriftFault → DriftFound
drift_of None = Kept
drift_of (Some fault) = Wrong (wrong_sample_of fault)

-- whether the samples keep a drift, if one is given
abbrev pub IsDriftFound : Option Drift → List LogEntry → Option DriftFound → Type 0
IsDriftFound None entries found = found ≡ None
IsDriftFound (Some drift) entries found = (fault : Option DriftFault) × IsDriftFinding drift entries fault × (found ≡ Some (drift_of fault))

-- HINTS

abbrev pub open_before : MissingOpen → Option ℕ → Option OpenHint
open_before missing None = None
open_before missing (Some before) = Some (record { task = missing.task; life = missing.life; before = before })

abbrev pub open_of : List LogEntry → Option MissingOpen → Option OpenHint
open_of entries None = None
open_of entries (Some missing) = open_before missing (number_of entries (Some missing.index))

abbrev pub grants_of : MissingGrants → GrantsHint
grants_of missing = record { from = missing.first; to = missing.last }

-- the same with calls by their numbers from 1 in the place of indices of entries
abbrev pub hints_of : List LogEntry → Lacking → Hints
hints_of entries lacking = record { process = open_of entries lacking.process; begin = lacking.start; grants = option_map grants_of lacking.grants }

-- what the logs may lack, by what was found
abbrev pub AreHintsTold : Continued → List LogEntry → Finding → Hints → Type 0
AreHintsTold job entries finding hints = (lacking : Lacking) × AreHints job entries finding lacking × (hints ≡ hints_of entries lacking)

-- THE LAST LINE

-- what is told of logs that are one run
pub record IsOneTold (job : Continued) (own : Job) (entries : List LogEntry) (asked : Option Drift) (is_lacking : Bool) (run : OneRun) : Type 0 where
  pub counts : AreCountsOf own entries run.counts
  pub one_word : run.one_word ≡ coarse_count entries
  pub silent : run.silent.items ≡ silent_tasks own entries
  pub untimely : AreUntimelyOf job entries run.untimely
  pub drift : IsDriftFound asked entries run.drift
  pub forgotten : run.forgotten ≡ is_lacking

-- of logs of which two entries have one ticket, which stand at these indices
abbrev pub double_line : List LogLine → List LogEntry → ℕ → ℕ → Option LogEntry → Option LogEntry → List ℕ
double_line places entries first second (Some entry) (Some other) =
    line_text (double_end_data places (length entries) (record { ticket = entry.line.ticket; first = first + 1; second = second + 1 }))
double_line places entries first second _ _ = []

-- the last line, by what was found; what earlier logs sent may be forgotten if the logs go on from others, and a reply is that something was not sent
abbrev pub IsEndLine : Continued → Start → List LogLine → List LogEntry → Finding → Bool → Option Drift → List ℕ → Type 0
IsEndLine job start places entries (One steps late) all_sent drift text =
    (run : OneRun) × IsOneTold job start.job entries drift (is_some start.earlier && not all_sent) run
    × (text ≡ line_text (one_end_data places (length entries) run))
IsEndLine job start places entries (Double first second) all_sent drift text =
    text ≡ double_line places entries first second (slice_get entries first) (slice_get entries second)
IsEndLine job start places entries (Other index wanted held cause) all_sent drift text =
    (hints : Hints) × AreHintsTold job entries (Other index wanted held cause) hints × (text ≡ line_text (other_end_data places (length entries) hints))
