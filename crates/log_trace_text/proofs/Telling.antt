-- What is found by a job's own policy, and what the calls read, is told of them.
use Rattle.std.proofs.Common.{◌≡◌, ◌&&◌, ℕ, ◌+◌, Bool, not, List, ◌∷◌, ◌++◌, length, map, Option, Result, Ok, Err, IfOk, sym, subst}
use Rattle.std.specs.Prelude.{MatchOption, is_some}
use Rattle.std.proofs.lemmas.List.{length-map}
use Rattle.cluster.specs.Pasts.{readings}
use Rattle.cluster.specs.Timing.{greatest_reading}
use Rattle.cluster.specs.continued.Jobs.{Continued}
use Rattle.job_calls.specs.declared.timing.Reading.{Reading}
use Rattle.job_calls.specs.declared.timing.Reading.TheVariants.{TableClock}
use Rattle.reasons.specs.declared.untimely.UntimelyReadings.{UntimelyReadings}
use Rattle.reasons.specs.Untimely.{AreTimely, IsFirstUntimely}
use Rattle.log_line.specs.declared.entry.LogEntry.{LogEntry}
use Rattle.clocks.specs.declared.drift.Drift.{Drift}
use Rattle.log_line.specs.declared.told.CallerReply.{CallerReply}
use Rattle.log_run.specs.declared.held.HeldLeases.{HeldLeases}
use Rattle.log_run.specs.declared.late.Late.{Late}
use Rattle.log_run.specs.declared.start.Start.{Start}
use Rattle.log_causes.specs.declared.cause.Cause.{Cause}
use Rattle.log_causes.specs.declared.finding.Finding.{Finding}
use Rattle.log_causes.specs.declared.finding.Finding.TheVariants.{One, Other}
use Rattle.reason_values.specs.declared.place.LogLine.{LogLine}
use Rattle.reason_values.specs.Lines.{line_text}
use Rattle.trace_ends.specs.declared.end.OneRun.{OneRun}
use Rattle.trace_ends.specs.declared.hints.Hints.{Hints}
use Rattle.trace_ends.specs.Ends.{one_end_data, other_end_data}
use Rattle.log_trace_text.specs.Endings.{AreHintsTold, AreUntimelyOf, IsEndLine, IsOneTold, reading_of}

-- what readings say of the clocks, of so many calls
Says : ℕ → List Reading → ℕ → Option UntimelyReadings → Type 0
Says skew read calls untimely = MatchOption untimely (AreTimely skew read (calls + 1)) (IsFirstUntimely skew read)

pub untimely_told : (job : Continued) (entries : List LogEntry) (skew earlier : ℕ) (read : List Reading) (untimely : Option UntimelyReadings)
    → skew ≡ job.policy.skew → earlier ≡ greatest_reading (readings job.earlier) → read ≡ map reading_of entries
    → MatchOption untimely (AreTimely skew (TableClock earlier ∷ read) (length read + 1)) (IsFirstUntimely skew (TableClock earlier ∷ read))
    → AreUntimelyOf job entries untimely
unfolding Says
untimely_told job entries skew earlier read untimely same begun all found =
    let by_read = subst (λ (r : List Reading). Says skew (TableClock earlier ∷ r) (length r) untimely) all found in
    let by_count = subst (λ (n : ℕ). Says skew (TableClock earlier ∷ map reading_of entries) n untimely) (length-map entries reading_of) by_read in
    let by_clock = subst (λ (at : ℕ). Says skew (TableClock at ∷ map reading_of entries) (length entries) untimely) begun by_count in
    subst (λ (s : ℕ). Says s (TableClock (greatest_reading (readings job.earlier)) ∷ map reading_of entries) (length entries) untimely) same by_clock

pub one_told : {X E : Type 0} (r : Result X E) (text : X → List ℕ) (job : Continued) (start : Start) (places : List LogLine) (entries : List LogEntry)
    (finding : Finding) (steps : ℕ) (late : Option Late) (all_sent : Bool) (drift : Option Drift) (run : OneRun) (calls : ℕ)
    → finding ≡ One steps late → calls ≡ length entries → IsOneTold job start.job entries drift (is_some start.earlier && not all_sent) run
    → IfOk r (λ x. text x ≡ line_text (one_end_data places calls run))
    → IfOk r (λ x. IsEndLine job start places entries finding all_sent drift (text x))
one_told (Ok x) text job start places entries finding steps late all_sent drift run calls is same told written =
    subst (λ (f : Finding). IsEndLine job start places entries f all_sent drift (text x)) (sym is)
    (run, told, subst (λ (n : ℕ). text x ≡ line_text (one_end_data places n run)) same written)
one_told (Err e) text job start places entries finding steps late all_sent drift run calls is same told written = tt

pub other_told : {X E : Type 0} (r : Result X E) (text : X → List ℕ) (job : Continued) (start : Start) (places : List LogLine) (entries : List LogEntry)
    (finding : Finding) (index : ℕ) (wanted : CallerReply) (held : Option HeldLeases) (cause : Option Cause) (all_sent : Bool) (drift : Option Drift)
    (hints : Hints) (calls : ℕ) → finding ≡ Other index wanted held cause → calls ≡ length entries → AreHintsTold job entries finding hints
    → IfOk r (λ x. text x ≡ line_text (other_end_data places calls hints))
    → IfOk r (λ x. IsEndLine job start places entries finding all_sent drift (text x))
other_told (Ok x) text job start places entries finding index wanted held cause all_sent drift hints calls is same told written =
    subst (λ (f : Finding). IsEndLine job start places entries f all_sent drift (text x)) (sym is) (
      hints,
      subst (λ (f : Finding). AreHintsTold job entries f hints) is told,
      subst (λ (n : ℕ). text x ≡ line_text (other_end_data places n hints)) same written,
    )
other_told (Err e) text job start places entries finding index wanted held cause all_sent drift hints calls is same told written = tt

-- a text with a slice after it
pub joined : (whole text slice told more : List ℕ) → text ≡ told → slice ≡ more → whole ≡ text ++ slice → whole ≡ told ++ more
joined whole text slice told more first second both = cc
