-- What the call of an entry makes of the machines and of the places.
use Rattle.std.specs.Prelude.{◌≡◌, ℕ, Bool, true, false, List, Option, Some, None}
use Rattle.lease_table.specs.Tables.{Standing}
use Rattle.job_calls.specs.declared.call.ClusterCall.{ClusterCall}
use Rattle.job_calls.specs.declared.call.ClusterCall.TheVariants as call
use Rattle.cluster.specs.Pasts.{Past}
use Rattle.cluster.specs.continued.Deliveries.{known_grant}
use Rattle.cluster.specs.continued.Jobs.{Continued, job_in}
use Rattle.reasons.specs.Placed.{Placed, ArePlaces}
use Rattle.reasons.specs.declared.places.CallPlaces.{CallPlaces}
use Rattle.log_line.specs.declared.line.LoggedCall.{LoggedCall}
use Rattle.log_line.specs.declared.line.LoggedCall.TheVariants.{Whole, HearBare, Restore, Sample}
use Rattle.log_run.specs.declared.log_machines.LogMachines.{LogMachines}
use Rattle.log_run.specs.Calls.{call_after}
use Rattle.log_run.specs.Played.{StandsFor}
use Rattle.log_run.specs.internals.Machines.{HavePlayed}
use Rattle.log_trace.specs.declared.making.MadeCall.{MadeCall}
use Rattle.log_trace.specs.Calls.{AreMadeAt}
use Rattle.log_trace.specs.Lines.{IsLineReason, not_owner_at}

-- a line stands for one call, as all do but those of a table that is restored and of a sample
abbrev pub is_single : LoggedCall → Bool
is_single (Restore numbers) = false
is_single (Sample taken) = false
is_single _ = true

-- of a `serve`, the committed generation if the task does not own the key in it
abbrev pub foreign_in : Standing → LoggedCall → Option ℕ
foreign_in t (Whole (call.Serve task key at)) = not_owner_at t task key
foreign_in t _ = None

-- the whole call of a line that hears a grant without its ranges, where the machines know the grant
abbrev pub IsHeardBy : Continued → Past → LoggedCall → Option ClusterCall → Type 0
IsHeardBy job past (HearBare task grant at) (Some c) = c ≡ call_after past (HearBare task grant at)
IsHeardBy job past (HearBare task grant at) None = known_grant job.forgotten past grant.number ≡ None
IsHeardBy job past _ whole = whole ≡ None

-- the call of an entry was made at a place, and this is what its caller is told and why
pub record IsMadeAt (job : Continued) (past : Past) (placed : List Placed) (place : ℕ) (c : LoggedCall) (made : MadeCall) (machines : LogMachines)
    (kept : CallPlaces) : Type 0 where
  pub after : Past
  pub placed_after : List Placed
  pub stands : StandsFor (job_in job) past c made.reply after
  pub at : AreMadeAt place past placed after placed_after
  pub played : HavePlayed job after machines
  pub places : ArePlaces job.tasks placed_after kept
  pub reason : IsLineReason job past placed c made.reply made.reason
