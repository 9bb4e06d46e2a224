-- What is found of the calls of a log, and why.
use Rattle.std.specs.Prelude.{◌≡◌, ℕ, Bool, true, false, List, Option, None}
use Rattle.cluster.specs.continued.Jobs.{Continued}
use Rattle.log_line.specs.declared.told.CallerReply.{CallerReply}
use Rattle.log_line.specs.declared.entry.LogEntry.{LogEntry}
use Rattle.log_run.specs.declared.held.HeldLeases.{HeldLeases}
use Rattle.log_run.specs.Days.{IsSent}
use Rattle.log_run.specs.OneRun.{IsBreak, IsDouble, IsOneRun, TicketsRise}
use Rattle.log_causes.specs.declared.cause.Cause.{Cause}
use Rattle.log_causes.specs.declared.finding.Finding.{Finding}
use Rattle.log_causes.specs.declared.finding.Finding.TheVariants.{One, Double, Other}
use Rattle.log_causes.specs.Questions.{IsCauseOf}

-- the entries before this place are a run, the caller of its call should have been told something else, and this is why
pub record IsCausedBreak (job : Continued) (entries : List LogEntry) (index : ℕ) (wanted : CallerReply) (held : Option HeldLeases)
    (cause : Option Cause) : Type 0 where
  pub fault : IsBreak job entries index wanted held
  pub because : IsCauseOf job fault.after entries index fault.entry.line.call wanted cause

-- the tickets rise where no two are the same
abbrev pub IsFound : Continued → List LogEntry → Finding → Type 0
IsFound job entries (One steps late) = TicketsRise entries × IsOneRun job entries steps late
IsFound job entries (Double first second) = IsDouble entries first second
IsFound job entries (Other index wanted held cause) = TicketsRise entries × IsCausedBreak job entries index wanted held cause

-- whether the calls are one run with timely clocks
abbrev pub is_timely : Finding → Bool
is_timely (One steps None) = true
is_timely _ = false

-- whether the calls are one run
abbrev pub is_one : Finding → Bool
is_one (One steps late) = true
is_one _ = false

-- the calls are one run, and this is whether none of their replies was that something was not sent
abbrev pub AreSent : Continued → List LogEntry → Finding → Bool → Type 0
AreSent job entries (One steps late) all_sent = IsSent all_sent job entries late
AreSent job entries (Double first second) all_sent = all_sent ≡ false
AreSent job entries (Other index wanted held cause) all_sent = all_sent ≡ false
