-- What is written of the samples of a log.
use Rattle.std.specs.Prelude.{◌≡◌, ℕ, Bool, true, is_none, List, [], ◌++◌, codes, decimal, Option, Some, None}
use Rattle.clocks.specs.declared.drift.Drift.{Drift}
use Rattle.log_run.specs.declared.drift.ClockFault.{ClockFault}
use Rattle.log_run.specs.declared.drift.ClockFault.TheVariants.{Back, SentAhead, Beyond}
use Rattle.log_run.specs.declared.drift.DriftFault.{DriftFault}
use Rattle.log_line.specs.declared.entry.LogEntry.{LogEntry}
use Rattle.log_run.specs.declared.outcome.Outcome.{Outcome}
use Rattle.log_run.specs.declared.outcome.Outcome.TheVariants.{One}
use Rattle.log_line.specs.declared.line.TaskSample.{TaskSample}
use Rattle.log_run.specs.Drifts.{IsDriftFinding}
use Rattle.audit_text.specs.Standing.{standing_at}

-- what is wrong with a sample
abbrev pub why_text : TaskSample → ClockFault → List ℕ
why_text taken Back = codes "\"now\" is " ++ (decimal taken.now ++ codes ", below that of a sample before")
why_text taken SentAhead = codes "\"sent\" is " ++ (decimal taken.sample.sent ++ (codes ", above \"now\", which is " ++ decimal taken.now))
why_text taken (Beyond most) =
    codes "\"reading\" is " ++ (decimal taken.sample.reading ++ (codes ", and by the samples before at most "
    ++ (decimal most ++ (codes " at " ++ decimal taken.now))))

abbrev pub fault_text : DriftFault → List ℕ
fault_text fault = why_text fault.taken fault.why

-- whether the clocks kept the drift, as far as the samples show, and else the first sample that is wrong
abbrev pub drift_text : List (List ℕ) → List LogEntry → Option DriftFault → List ℕ
drift_text names entries None = codes "drift yes\n"
drift_text names entries (Some fault) = codes "drift no: " ++ (standing_at names entries fault.index ++ (codes ": " ++ (fault_text fault ++ codes "\n")))

-- for calls that are one run, if a drift is given, a line says so of the samples
abbrev pub IsDriftTold : Option Drift → List (List ℕ) → List LogEntry → Outcome → Bool → List ℕ → Type 0
IsDriftTold (Some drift) names entries (One steps late) kept text =
    (fault : Option DriftFault) × IsDriftFinding drift entries fault × (kept ≡ is_none fault) × (text ≡ drift_text names entries fault)
IsDriftTold drift names entries outcome kept text = (kept ≡ true) × (text ≡ [])
