-- What is known of handles while the entries of a log are played.
use Rattle.std.specs.Prelude.{ℕ, nat_lt, List, reverse, take, Option, Some, None, if◌then◌else◌}
use Rattle.std.specs.List.{All}
use Rattle.job_calls.specs.Jobs.{Job}
use Rattle.cluster.specs.Pasts.{Past}
use Rattle.cluster.specs.continued.Jobs.{Continued}
use Rattle.log_line.specs.declared.entry.LogEntry.{LogEntry}
use Rattle.log_run.specs.declared.log_machines.LogMachines.{LogMachines}
use Rattle.log_run.specs.Played.{AreCallsOf}
use Rattle.log_run.specs.internals.Machines.{HavePlayed}
use Rattle.log_causes.specs.Broken.{IsKeptTo, IsTaking, is_taken_away}
use Rattle.log_trace.specs.declared.breaking.BrokenHandle.{BrokenHandle}
use Rattle.log_trace.specs.declared.takings.Taking.{Taking}
use Rattle.log_trace.specs.Takings.{AreAllWatched}

-- the first entry that took the key of a handle away, once one more entry was played, after which the calls are these
abbrev pub first_after : Job → Past → ℕ → BrokenHandle → Option ℕ → Option ℕ
first_after job past index broken (Some place) = Some place
first_after job past index broken None = if is_taken_away job past broken.task broken.handle then Some index else None

abbrev pub taking_after : Job → Past → ℕ → Taking → Taking
taking_after job past index t = record { broken = t.broken; first = first_after job past index t.broken t.first }

-- a place, if there is one and it is below an end
abbrev pub first_below : Option ℕ → ℕ → Option ℕ
first_below (Some place) end = if nat_lt place end then Some place else None
first_below None end = None

-- so many entries were played, and this is the first of them that took the key of a handle away
abbrev pub IsTakenBy : Continued → List LogEntry → ℕ → BrokenHandle → Option ℕ → Type 0
IsTakenBy job entries index broken (Some place) = IsTaking job entries broken.task broken.handle place
IsTakenBy job entries index broken None = IsKeptTo job entries broken.task broken.handle index

-- so many entries were played, and this is known of the handles
pub record AreWatchedTo (job : Continued) (entries : List LogEntry) (index : ℕ) (machines : LogMachines) (takings : List Taking) : Type 0 where
  pub past : Past
  pub made : AreCallsOf job (reverse (take index entries)) past
  pub played : HavePlayed job past machines
  pub each : All (λ t. IsTakenBy job entries index t.broken t.first) takings
  pub watched : AreAllWatched entries takings
