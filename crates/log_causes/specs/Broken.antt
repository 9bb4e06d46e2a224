-- Which call of a log took the key of a handle away.
use Rattle.std.specs.Prelude.{◌≡◌, ℕ, ◌+◌, ◌<◌, Bool, true, false, not, List, length, reverse, take, Option, Some, None, option_map, Result, Ok, Err}
use Rattle.grants.specs.declared.slicelet_error.Stranger.{Stranger}
use Rattle.key_handle.specs.declared.handle.KeyHandle.{KeyHandle}
use Rattle.slicelet.specs.States.{SliceletState}
use Rattle.slicelet.specs.Continuity.{checked_in}
use Rattle.job_calls.specs.Jobs.{Job}
use Rattle.cluster.specs.continued.Jobs.{Continued, job_in}
use Rattle.job_calls.specs.declared.call.ClusterCall.TheVariants as call
use Rattle.cluster.specs.Pasts.{Past}
use Rattle.cluster.specs.continued.Runs.{IsRun}
use Rattle.cluster.specs.Clusters.{slicelet_of}
use Rattle.log_causes.specs.declared.cause.Cause.{Cause}
use Rattle.log_causes.specs.declared.cause.Cause.TheVariants.{TakenAway}
use Rattle.log_line.specs.declared.entry.LogEntry.{LogEntry}
use Rattle.log_line.specs.declared.line.LoggedCall.{LoggedCall}
use Rattle.log_line.specs.declared.line.LoggedCall.TheVariants.{Whole}
use Rattle.log_run.specs.Played.{AreCallsOf}

-- a check finds its handle broken
abbrev pub is_broken : Result Bool Stranger → Bool
is_broken (Ok kept) = not kept
is_broken (Err stranger) = false

-- a call took the key of a handle away: a check right after the last call of the task, at its reading, finds the handle broken. No lease ends
-- between that call and the check, so that a call broke it: at its reading the key was denied just before it or just after it, or it began a
-- later life.
abbrev pub has_lost : KeyHandle → Option SliceletState → Bool
has_lost handle None = false
has_lost handle (Some s) = is_broken (checked_in s handle s.last)

abbrev pub is_taken_away : Job → Past → ℕ → KeyHandle → Bool
is_taken_away job past task handle = has_lost handle (slicelet_of job past task)

-- the machines made the calls of the entries up to this place, and this is whether one of them took the key away
pub record IsLostBy (job : Continued) (entries : List LogEntry) (task : ℕ) (handle : KeyHandle) (place : ℕ) (lost : Bool) : Type 0 where
  pub past : Past
  pub made : AreCallsOf job (reverse (take (place + 1) entries)) past
  pub answered : IsRun job past
  pub state : is_taken_away (job_in job) past task handle ≡ lost

-- no entry before this place took the key away
abbrev pub IsKeptTo : Continued → List LogEntry → ℕ → KeyHandle → ℕ → Type 0
IsKeptTo job entries task handle place = (before : ℕ) → before < place → IsLostBy job entries task handle before false

-- the entry at this place is the first that took the key away
pub record IsTaking (job : Continued) (entries : List LogEntry) (task : ℕ) (handle : KeyHandle) (place : ℕ) : Type 0 where
  pub within : place < length entries
  pub kept : IsKeptTo job entries task handle place
  pub lost : IsLostBy job entries task handle place true

abbrev pub IsTakingOr : Continued → List LogEntry → ℕ → KeyHandle → Option ℕ → Type 0
IsTakingOr job entries task handle (Some place) = IsTaking job entries task handle place
IsTakingOr job entries task handle None = IsKeptTo job entries task handle (length entries)

-- why the handle that a call checks after these entries is broken: the first of them that took its key away. None did where the key is denied at
-- the reading of the check alone, since the leases that cover it have ended by then
abbrev pub IsBreakCause : Continued → List LogEntry → LoggedCall → Option Cause → Type 0
IsBreakCause job before (Whole (call.Check task handle at)) cause =
    (place : Option ℕ) × IsTakingOr job before task handle place × (cause ≡ option_map (λ (p : ℕ). TakenAway p) place)
IsBreakCause job before _ cause = cause ≡ None
