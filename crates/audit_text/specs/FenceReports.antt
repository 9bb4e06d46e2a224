-- What is written of the writes of a log.
use Rattle.std.specs.Prelude.{◌≡◌, ℕ, ◌==◌, ◌&&◌, Bool, true, false, not, is_none, List, [], ◌++◌, codes, decimal, length, slice_get, Option, Some, None}
use Rattle.cluster.specs.continued.Jobs.{Continued}
use Rattle.faults.specs.Quoted.{escaped}
use Rattle.log_line.specs.declared.entry.LinePosition.{LinePosition}
use Rattle.log_line.specs.declared.entry.LogEntry.{LogEntry}
use Rattle.log_line.specs.declared.entry.WriteEntry.{WriteEntry}
use Rattle.log_writes.specs.declared.fault.FenceFault.{FenceFault}
use Rattle.log_writes.specs.declared.fault.FenceReason.{FenceReason}
use Rattle.log_writes.specs.declared.fault.FenceReason.TheVariants.{NotGiven, Overtaken}
use Rattle.log_writes.specs.Faults.{IsFenced}
use Rattle.audit_text.specs.Standing.{name_text}

-- a position: the name of its file, with escapes, and the number of its line
abbrev pub place_text : List (List ℕ) → LinePosition → List ℕ
place_text names place = escaped (name_text (slice_get names place.file)) ++ (codes ":" ++ decimal place.line)

-- why a write is ruled out
abbrev pub reason_text : List (List ℕ) → FenceReason → List ℕ
reason_text names NotGiven = codes "no task was given its token for its key before"
reason_text names (Overtaken place) = codes "taken after " ++ (place_text names place ++ codes ", whose token is greater")

-- whether the writes obey the law, and else the first one that it rules out
abbrev pub fence_text : List (List ℕ) → Option FenceFault → List ℕ
fence_text names None = codes "fenced yes\n"
fence_text names (Some fault) = codes "fenced no: " ++ (place_text names fault.place ++ (codes ": " ++ (reason_text names fault.why ++ codes "\n")))

-- a verdict on writes is told
pub record IsVerdictTold (job : Continued) (goes_on : Bool) (names : List (List ℕ)) (entries : List LogEntry) (writes : List WriteEntry)
    (fenced : Bool) (text : List ℕ) : Type 0 where
  pub fault : Option FenceFault
  pub judged : IsFenced job goes_on entries writes fault
  pub verdict : fenced ≡ is_none fault
  pub text_is : text ≡ fence_text names fault

-- nothing is told
abbrev pub IsNothingTold : Bool → List ℕ → Type 0
IsNothingTold fenced text = (fenced ≡ true) × (text ≡ [])

-- writes are judged where there are some, and the calls are one run
abbrev pub are_judged : Bool → List WriteEntry → Bool
are_judged one writes = one && not (length writes == 0)

-- a line says so of the writes that are judged
abbrev pub IsToldIf : Bool → Continued → Bool → List (List ℕ) → List LogEntry → List WriteEntry → Bool → List ℕ → Type 0
IsToldIf true job goes_on names entries writes fenced text = IsVerdictTold job goes_on names entries writes fenced text
IsToldIf false job goes_on names entries writes fenced text = IsNothingTold fenced text

abbrev pub IsFenceTold : Continued → Bool → List (List ℕ) → List LogEntry → List WriteEntry → Bool → Bool → List ℕ → Type 0
IsFenceTold job goes_on names entries writes one fenced text = IsToldIf (are_judged one writes) job goes_on names entries writes fenced text
