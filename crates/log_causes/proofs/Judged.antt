-- Outcomes with the causes of wrong replies.
use Rattle.std.proofs.Common.{◌≡◌, ◌∙◌, ℕ, ◌<◌, List, length, get_or, sym, subst}
use Rattle.std.specs.Prelude.{Option, Some}
use Rattle.cluster.specs.continued.Jobs.{Continued}
use Rattle.log_line.specs.declared.told.CallerReply.{CallerReply}
use Rattle.log_line.specs.declared.entry.LogEntry.{LogEntry}
use Rattle.log_run.specs.declared.held.HeldLeases.{HeldLeases}
use Rattle.log_run.specs.OneRun.{IsBreak}
use Rattle.log_run.proofs.Places.{at_place}
use Rattle.log_causes.specs.declared.cause.Cause.{Cause}
use Rattle.log_causes.specs.Audited.{IsCausedBreak}
use Rattle.log_causes.specs.Questions.{IsCauseOf}

same_entry : (x y : LogEntry) → Some x ≡ Some y → x ≡ y
same_entry x y e = cc

pub caused_here : (job : Continued) (entries : List LogEntry) (index : ℕ) (wanted : CallerReply) (held : Option HeldLeases) (cause : Option Cause) (entry : LogEntry)
    → index < length entries → entry ≡ get_or entries index entry → (fault : IsBreak job entries index wanted held)
    → IsCauseOf job fault.after entries index entry.line.call wanted cause → IsCausedBreak job entries index wanted held cause
caused_here job entries index wanted held cause entry low here fault because = record {
  fault = fault;
  because = subst (λ (e : LogEntry). IsCauseOf job fault.after entries index e.line.call wanted cause)
      (same_entry entry fault.entry (sym (at_place entries index entry low here) ∙ fault.here)) because;
}
