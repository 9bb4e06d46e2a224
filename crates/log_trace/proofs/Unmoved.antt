-- Calls that leave the places of tasks as they are.
use Rattle.std.proofs.Common.{◌≡◌, ◌∙◌, ℕ, ◌+◌, ◌==◌, Bool, true, false, List, [], ◌∷◌, ◌++◌, map, refl, sym, subst}
use Rattle.std.specs.Prelude.{◌&&◌}
use Rattle.std.specs.List.{AllByRecursion}
use Rattle.lease_rule.specs.declared.lease.Kind.{Kind}
use Rattle.lease_rule.specs.declared.lease.Kind.TheVariants.{Guard, Bridge}
use Rattle.job_calls.specs.declared.call.ClusterCall.{ClusterCall}
use Rattle.job_calls.specs.declared.call.ClusterCall.TheVariants as call
use Rattle.cluster.specs.Pasts.{Event, event, is_accepted}
use Rattle.reasons.specs.declared.places.CallPlaces.{CallPlaces}
use Rattle.reasons.specs.Placed.{ArePlaces, Placed, accepted_in, heard_in, is_hear_by, places_of, with_accepted}
use Rattle.log_run.specs.Restores.{grant_to_nobody}
use Rattle.log_trace.specs.Calls.{placed_at}

-- tasks with the same places
pub same_places : (many : ℕ) (one other : List Placed) (places : CallPlaces) → ((task : ℕ) → places_of task one ≡ places_of task other)
    → ArePlaces many one places → ArePlaces many other places
same_places many one other places same are = (are.0, λ i a is. are.1 i a is ∙ same (i + 1))

and_false : (b : Bool) → (b && false) ≡ false
and_false true = refl
and_false false = refl

-- REFUSED CALLS

unheard : (task : ℕ) (kind : Kind) (p : Placed) (placed : List Placed) → is_accepted p.event.reply ≡ false → heard_in task kind (p ∷ placed) ≡ heard_in task kind placed
unheard task kind p placed refused = rw (refused, and_false (is_hear_by task kind p.event.call)) refl

unaccepted : (task : ℕ) (c : ClusterCall) (place : ℕ) (before : List ℕ) → with_accepted task c false place before ≡ before
unaccepted task (call.Task by c) place before = rw (and_false (by == task)) refl
unaccepted task _ place before = refl

uncounted : (task : ℕ) (p : Placed) (placed : List Placed) → is_accepted p.event.reply ≡ false → accepted_in task (p ∷ placed) ≡ accepted_in task placed
uncounted task p placed refused = rw refused (unaccepted task p.event.call p.place (accepted_in task placed))

places_by : (task : ℕ) (one other : List Placed) → heard_in task Guard one ≡ heard_in task Guard other → heard_in task Bridge one ≡ heard_in task Bridge other
    → accepted_in task one ≡ accepted_in task other → places_of task one ≡ places_of task other
places_by task one other guard bridge calls = rw (guard, bridge, calls) refl

pub refused_places : (many place : ℕ) (e : Event) (placed : List Placed) (places : CallPlaces) → is_accepted e.reply ≡ false → ArePlaces many placed places
    → ArePlaces many (placed_at place e ∷ placed) places
refused_places many place e placed places refused = same_places many placed (placed_at place e ∷ placed) places (λ task. sym (
    places_by task (placed_at place e ∷ placed) placed (unheard task Guard (placed_at place e) placed refused) (unheard task Bridge (placed_at place e) placed refused)
    (uncounted task (placed_at place e) placed refused)))

-- CALLS OF NO TASK

-- grants to nobody
nobody_task : (place at task : ℕ) (ahead : List Event) (placed : List Placed) → AllByRecursion (λ e. e.call ≡ grant_to_nobody at) ahead
    → places_of task (map (placed_at place) ahead ++ placed) ≡ places_of task placed
nobody_task place at task [] placed all = refl
nobody_task place at task (e ∷ ahead) placed all =
    subst (λ (c : ClusterCall). places_of task (placed_at place (event c e.reply) ∷ (map (placed_at place) ahead ++ placed)) ≡ places_of task placed) (sym all.0)
    (nobody_task place at task ahead placed all.1)

pub nobody_places : (many place at : ℕ) (ahead : List Event) (placed : List Placed) (places : CallPlaces) → AllByRecursion (λ e. e.call ≡ grant_to_nobody at) ahead
    → ArePlaces many placed places → ArePlaces many (map (placed_at place) ahead ++ placed) places
nobody_places many place at ahead placed places all =
    same_places many placed (map (placed_at place) ahead ++ placed) places (λ task. sym (nobody_task place at task ahead placed all))
