-- What a task does next about its leases.
use Rattle.std.specs.Prelude.{ℕ, ◌==◌, ◌&&◌, Bool, false, not, nat_lt, List, [], ◌∷◌, Option, Some, None, is_some, unwrap_or}
use Rattle.machines.specs.Refusals.{when, first_of}
use Rattle.lease_rule.specs.declared.lease.Kind.{Kind}
use Rattle.lease_rule.specs.declared.lease.Kind.TheVariants.{Guard, Bridge}
use Rattle.grants.specs.declared.values.Grant.{Grant}
use Rattle.grants.specs.declared.values.Phase.{Phase}
use Rattle.grants.specs.declared.values.Phase.TheVariants.{Steady, Bridging}
use Rattle.slicelet.specs.declared.next_action.TaskAction.{TaskAction}
use Rattle.slicelet.specs.declared.next_action.TaskAction.TheVariants.{Start, Ask, GiveUp, Rest}
use Rattle.slicelet.specs.States.{SliceletState, held_in}

-- the lease that a task wants in a phase: a guard of the committed generation, or a bridge to the proposed one
abbrev pub wanted_kind : Phase → Kind
wanted_kind (Steady committed) = Guard
wanted_kind (Bridging committed proposed) = Bridge

abbrev pub wanted_generation : Phase → ℕ
wanted_generation (Steady committed) = committed
wanted_generation (Bridging committed proposed) = proposed

abbrev pub other_kind : Kind → Kind
other_kind Guard = Bridge
other_kind Bridge = Guard

-- a lease is held, is of this generation and has not ended
abbrev pub is_live_of : ℕ → ℕ → Option Grant → Bool
is_live_of generation at None = false
is_live_of generation at (Some grant) = grant.lease.generation == generation && nat_lt at grant.lease.ends

-- the cases in their order; in generation 0 no task owns a key
abbrev pub action_cases : SliceletState → Kind → ℕ → ℕ → List (Option TaskAction)
action_cases s kind generation at =
    when (not s.up) Start ∷
    when (generation == 0) Rest ∷
    when (not (is_live_of generation at (held_in s kind))) (Ask kind) ∷
    when (is_some (held_in s (other_kind kind))) (GiveUp (other_kind kind)) ∷ []

-- the first case that holds, and else there is nothing to do
abbrev pub next_action : SliceletState → Phase → ℕ → TaskAction
next_action s phase at = unwrap_or (first_of (action_cases s (wanted_kind phase) (wanted_generation phase) at)) Rest
