-- The clocks of tasks as they are kept.
use Rattle.std.specs.Prelude.{◌≡◌, ℕ, ◌^◌, ◌-◌, List, Option, Some, None, nat_eq, unwrap_or}
use Rattle.std.specs.HashMap as hash
use Rattle.clocks.specs.declared.drift.Drift.{Drift}
use Rattle.clocks.specs.declared.task_clock.TaskClock.{TaskClock}
use Rattle.clocks.specs.TaskClocks.{new_clock}
use Rattle.clocks.specs.Pasts.{Past}
use Rattle.clocks.specs.Timely.{clock_after}
use Rattle.log_line.specs.declared.line.LoggedCall.{LoggedCall}
use Rattle.log_run.specs.declared.drift.DriftFault.{DriftFault}
use Rattle.log_line.specs.declared.entry.LogEntry.{LogEntry}
use Rattle.log_run.specs.declared.drift.TaskClocks.{TaskClocks}
use Rattle.log_run.specs.Drifts.{fault_in, sample_in, samples_of}

-- the clock of a task
abbrev pub clock_in : TaskClocks → ℕ → TaskClock
clock_in clocks task = unwrap_or (hash.get nat_eq clocks.by_task task) clocks.opening

-- the clock of each task is that after its past
pub record ShowPasts (drift : Drift) (past : ℕ → Past) (clocks : TaskClocks) : Type 0 where
  pub opening : clocks.opening ≡ new_clock drift (2 ^ 64 - 1)
  pub each : (task : ℕ) → clock_in clocks task ≡ clock_after drift (2 ^ 64 - 1) (past task)

-- that after the samples of entries, newest first
abbrev pub AreClocks : Drift → List LogEntry → TaskClocks → Type 0
AreClocks drift entries clocks = ShowPasts drift (λ task. samples_of task entries) clocks

-- a call takes a wrong sample after these entries, newest first, or takes none that is wrong
abbrev pub IsFaultOf : Drift → List LogEntry → LoggedCall → ℕ → Option DriftFault → Type 0
IsFaultOf drift entries c index None = fault_in drift entries (sample_in c) ≡ None
IsFaultOf drift entries c index (Some fault) =
    (fault.index ≡ index) × (sample_in c ≡ Some fault.taken) × (fault_in drift entries (sample_in c) ≡ Some fault.why)
