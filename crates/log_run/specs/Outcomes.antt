-- What is found of the calls of a log.
use Rattle.std.specs.Prelude.{◌≡◌, ℕ, Bool, true, false, List, Option}
use Rattle.cluster.specs.continued.Jobs.{Continued}
use Rattle.log_line.specs.declared.told.CallerReply.{CallerReply}
use Rattle.log_line.specs.declared.entry.LogEntry.{LogEntry}
use Rattle.log_run.specs.declared.held.HeldLeases.{HeldLeases}
use Rattle.log_run.specs.declared.log_machines.LogMachines.{LogMachines}
use Rattle.log_run.specs.declared.outcome.Outcome.{Outcome}
use Rattle.log_run.specs.declared.outcome.Outcome.TheVariants.{One, Double, Other}
use Rattle.log_run.specs.Days.{IsSent}
use Rattle.log_run.specs.OneRun.{IsBreak, IsDouble, IsOneRun, TicketsRise}
use Rattle.log_run.specs.internals.Machines.{HavePlayed}

-- the caller of the call at this place was told something else, and the machines have played the calls up to this one
pub record IsStopped (job : Continued) (entries : List LogEntry) (index : ℕ) (wanted : CallerReply) (held : Option HeldLeases)
    (machines : LogMachines) : Type 0 where
  pub fault : IsBreak job entries index wanted held
  pub played : HavePlayed job fault.after machines

-- what is found of entries in the order of their tickets
abbrev pub IsReplayed : Continued → List LogEntry → Outcome → Type 0
IsReplayed job entries (One steps late) = IsOneRun job entries steps late
IsReplayed job entries (Double first second) = IsDouble entries first second
IsReplayed job entries (Other index wanted held machines) = IsStopped job entries index wanted held machines

-- the tickets rise where no two are the same
abbrev pub IsJudged : Continued → List LogEntry → Outcome → Type 0
IsJudged job entries (One steps late) = TicketsRise entries × IsOneRun job entries steps late
IsJudged job entries (Double first second) = IsDouble entries first second
IsJudged job entries (Other index wanted held machines) = TicketsRise entries × IsStopped job entries index wanted held machines

-- whether the calls are one run
abbrev pub is_one_run : Outcome → Bool
is_one_run (One steps late) = true
is_one_run _ = false

-- the calls are one run, and this is whether none of their replies was that something was not sent
abbrev pub IsSentIn : Continued → List LogEntry → Outcome → Bool → Type 0
IsSentIn job entries (One steps late) all_sent = IsSent all_sent job entries late
IsSentIn job entries (Double first second) all_sent = all_sent ≡ false
IsSentIn job entries (Other index wanted held machines) all_sent = all_sent ≡ false
