-- Calls with their places, and the places of the calls that a task accepted.
use Rattle.std.specs.Prelude.{◌≡◌, ℕ, ◌==◌, ◌-◌, ◌&&◌, Bool, true, false, List, [], ◌∷◌, ◌++◌, map, length, Option, Some, None, if◌then◌else◌}
use Rattle.lease_rule.specs.declared.lease.Kind.{Kind}
use Rattle.lease_rule.specs.declared.lease.Kind.TheVariants.{Guard, Bridge}
use Rattle.lease_rule.specs.Leases.{same_kind}
use Rattle.grants.specs.declared.slicelet_call.SliceletCall.{SliceletCall}
use Rattle.grants.specs.declared.slicelet_call.SliceletCall.TheVariants.{Hear}
use Rattle.grants.specs.declared.values.Grant.{Grant}
use Rattle.slicelet.specs.Calls.{count_of, is_resume, this_process}
use Rattle.job_calls.specs.declared.call.ClusterCall.{ClusterCall}
use Rattle.job_calls.specs.declared.call.ClusterCall.TheVariants as call
use Rattle.job_calls.specs.declared.reply.ClusterReply.{ClusterReply}
use Rattle.cluster.specs.ActorLists.{AreActors}
use Rattle.cluster.specs.Numbers.{kept_with_number}
use Rattle.cluster.specs.Pasts.{Event, event, Past, is_accepted, task_calls}
use Rattle.reasons.specs.declared.places.TaskPlaces.{TaskPlaces}
use Rattle.reasons.specs.declared.places.CallPlaces.{CallPlaces}

-- a call with its reply, and the place by which a reader finds it
pub record Placed : Type 0 where
  pub place : ℕ
  pub event : Event

-- the last calls of a past have places, newest first; those before them have none
abbrev pub ArePlaced : List Placed → Past → Type 0
ArePlaced placed past = (earlier : Past) × (past ≡ map (λ p. p.event) placed ++ earlier)

-- a task hears a grant of a kind
abbrev pub is_hearing : Kind → SliceletCall → Bool
is_hearing kind (Hear grant at) = same_kind grant.lease.kind kind
is_hearing kind _ = false

abbrev pub is_hear_by : ℕ → Kind → ClusterCall → Bool
is_hear_by task kind (call.Task by c) = by == task && is_hearing kind c
is_hear_by task kind _ = false

-- the place of the last `hear` of a grant of a kind that a task accepted
abbrev pub heard_in : ℕ → Kind → List Placed → Option ℕ
heard_in task kind [] = None
heard_in task kind (p ∷ placed) = if is_hear_by task kind p.event.call && is_accepted p.event.reply then Some p.place else heard_in task kind placed

-- the places of the calls that a task accepted in its process, the first one first
abbrev pub with_place : SliceletCall → ℕ → List ℕ → List ℕ
with_place c place before = if is_resume c then [] else before ++ place ∷ []

abbrev pub with_accepted : ℕ → ClusterCall → Bool → ℕ → List ℕ → List ℕ
with_accepted task (call.Task by c) accepted place before = if by == task && accepted then with_place c place before else before
with_accepted task _ accepted place before = before

abbrev pub accepted_in : ℕ → List Placed → List ℕ
accepted_in task [] = []
accepted_in task (p ∷ placed) = with_accepted task p.event.call (is_accepted p.event.reply) p.place (accepted_in task placed)

-- where a task heard its leases, and where it accepted calls
abbrev pub places_of : ℕ → List Placed → TaskPlaces
places_of task placed = record {
  heard = record { guard = heard_in task Guard placed; bridge = heard_in task Bridge placed };
  calls = accepted_in task placed;
}

-- the place of a call by its number among those that a process accepted, of which the last ones have places
abbrev pub place_of_call : ℕ → ℕ → List ℕ → Option ℕ
place_of_call call count places = kept_with_number call (count - length places) places

-- the places of the calls of each task of a job
abbrev pub ArePlaces : ℕ → List Placed → CallPlaces → Type 0
ArePlaces many placed places = AreActors (λ task. places_of task placed) many places.tasks.items

-- at a place, a task accepted the `hear` of a grant
pub record IsHeardAt (placed : List Placed) (task : ℕ) (grant : Grant) (place : ℕ) : Type 0 where
  pub later : List Placed
  pub before : List Placed
  pub at : ℕ
  pub told : ClusterReply
  pub parts : placed ≡ later ++ record { place = place; event = event (call.Task task (Hear grant at)) told } ∷ before
  pub accepted : is_accepted told ≡ true

-- at a place, a task accepted a call, the one of this number in the process that it has now
pub record IsCallAt (placed : List Placed) (earlier : Past) (task number place : ℕ) : Type 0 where
  pub later : List Placed
  pub before : List Placed
  pub made : SliceletCall
  pub told : ClusterReply
  pub parts : placed ≡ later ++ record { place = place; event = event (call.Task task made) told } ∷ before
  pub accepted : is_accepted told ≡ true
  pub since : List SliceletCall
  pub process : this_process (task_calls task (map (λ p. p.event) placed ++ earlier))
      ≡ since ++ this_process (made ∷ task_calls task (map (λ p. p.event) before ++ earlier))
  pub numbered : count_of (made ∷ task_calls task (map (λ p. p.event) before ++ earlier)) ≡ number
