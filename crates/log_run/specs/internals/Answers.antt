-- What one line of a log makes of the machines.
use Rattle.std.specs.Prelude.{◌≡◌, ℕ, true, false, List, ◌++◌, get_or, length, Option, Some, None}
use Rattle.std.specs.List.{AllByRecursion}
use Rattle.cluster.specs.continued.Jobs.{Continued, job_in}
use Rattle.cluster.specs.Pasts.{Past}
use Rattle.log_line.specs.declared.told.CallerReply.{CallerReply}
use Rattle.log_line.specs.declared.line.LoggedCall.{LoggedCall}
use Rattle.log_line.specs.declared.line.LoggedLine.{LoggedLine}
use Rattle.log_run.specs.declared.log_machines.LogMachines.{LogMachines}
use Rattle.log_run.specs.Played.{IsCalled, StandsFor}
use Rattle.log_run.specs.Restores.{grant_to_nobody}
use Rattle.log_line.specs.Told.{is_worded}
use Rattle.log_run.specs.internals.Machines.{HavePlayed}

-- so many grants to nobody were made at a reading
pub record HasGranted (job : Continued) (past : Past) (count at : ℕ) (machines : LogMachines) : Type 0 where
  pub ahead : Past
  pub nobody : AllByRecursion (λ e. e.call ≡ grant_to_nobody at) ahead
  pub many : length ahead ≡ count
  pub played : HavePlayed job (ahead ++ past) machines

-- the call of a line was made, and its caller is told so
pub record IsMade (job : Continued) (past : Past) (c : LoggedCall) (told : CallerReply) (machines : LogMachines) : Type 0 where
  pub after : Past
  pub called : IsCalled past c told after
  pub played : HavePlayed job after machines

-- what a line stands for was played, and its caller is told so
pub record IsPlayed (job : Continued) (past : Past) (c : LoggedCall) (told : CallerReply) (machines : LogMachines) : Type 0 where
  pub after : Past
  pub stands : StandsFor (job_in job) past c told after
  pub played : HavePlayed job after machines

-- the line says that its caller was told this, or should have been told something else
abbrev pub Compares : LoggedLine → CallerReply → Option CallerReply → Type 0
Compares line told None = is_worded line.reply told ≡ true
Compares line told (Some wanted) = (wanted ≡ told) × (is_worded line.reply told ≡ false)

-- a line was played, and what its caller is told was compared with its words
pub record IsAnswered (job : Continued) (past : Past) (line : LoggedLine) (other : Option CallerReply) (machines : LogMachines) : Type 0 where
  pub told : CallerReply
  pub played : IsPlayed job past line.call told machines
  pub compared : Compares line told other
