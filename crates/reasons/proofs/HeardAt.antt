-- Where a held lease was heard.
use Rattle.std.proofs.Common.{◌≡◌, ◌∙◌, ℕ, Bool, true, false, List, [], ◌∷◌, ◌++◌, refl, ap, subst, arith}
use Rattle.std.specs.Prelude.{◌==◌, ◌&&◌, Option, Some, None, map, find, if◌then◌else◌}
use Rattle.std.proofs.lemmas.Bool.Decides.{nat_tests}
use Rattle.lease_rule.specs.declared.lease.Kind.{Kind}
use Rattle.lease_rule.specs.declared.lease.Kind.TheVariants.{Guard, Bridge}
use Rattle.lease_rule.specs.Leases.{same_kind}
use Rattle.grants.specs.declared.slicelet_call.SliceletCall.{SliceletCall}
use Rattle.grants.specs.declared.slicelet_call.SliceletCall.TheVariants.{Start, Hear, Release, Resume}
use Rattle.grants.specs.declared.values.Grant.{Grant}
use Rattle.slicelet.specs.Calls.{held_grant, heard_by, is_about, this_life}
use Rattle.slicelet.specs.States.{held_in}
use Rattle.job_calls.specs.declared.call.ClusterCall.{ClusterCall}
use Rattle.job_calls.specs.declared.call.ClusterCall.TheVariants as call
use Rattle.cluster.specs.Pasts.{event, Past, is_accepted, with_task_call, task_calls, history}
use Rattle.reasons.specs.Placed.{Placed, ArePlaced, is_hearing, is_hear_by, heard_in, IsHeardAt}

module _ (task : ℕ) (kind : Kind) (grant : Grant) (place : ℕ) where
  module _ (p : Placed) (placed : List Placed) (calls : List SliceletCall)
      (rest : held_grant kind calls ≡ Some grant → heard_in task kind placed ≡ Some place → IsHeardAt placed task grant place) where
    -- a call earlier
    earlier : IsHeardAt placed task grant place → IsHeardAt (p ∷ placed) task grant place
    earlier h = record { later = p ∷ h.later; before = h.before; at = h.at; told = h.told; parts = ap (λ (ps : List Placed). p ∷ ps) h.parts; accepted = h.accepted }

    before : held_grant kind calls ≡ Some grant → heard_in task kind placed ≡ Some place → IsHeardAt (p ∷ placed) task grant place
    before held heard = earlier (rest held heard)

    -- the call itself
    now : (g : Grant) (at : ℕ) → p.event.call ≡ call.Task task (Hear g at) → is_accepted p.event.reply ≡ true → g ≡ grant → p.place ≡ place
        → IsHeardAt (p ∷ placed) task grant place
    now g at is accepted same here = record {
      later = [];
      before = placed;
      at = at;
      told = p.event.reply;
      parts = (
          let made : p.event.call ≡ call.Task task (Hear grant at) = is ∙ ap (λ (x : Grant). call.Task task (Hear x at)) same in
          let a : Placed = record { place = place; event = event (call.Task task (Hear grant at)) p.event.reply } in
          let e : p ≡ a = same_placed made in ap (λ (x : Placed). x ∷ placed) e);
      accepted = accepted;
    }
      where
        same_placed : p.event.call ≡ call.Task task (Hear grant at) → p ≡ record { place = place; event = event (call.Task task (Hear grant at)) p.event.reply }
        same_placed made =
            ap (λ (c : ClusterCall). let x : Placed = record { place = p.place; event = event c p.event.reply } in x) made
            ∙ ap (λ (n : ℕ). let x : Placed = record { place = n; event = event (call.Task task (Hear grant at)) p.event.reply } in x) here

    by_kind : (g : Grant) (at : ℕ) (same : Bool) → p.event.call ≡ call.Task task (Hear g at) → is_accepted p.event.reply ≡ true → same_kind g.lease.kind kind ≡ same
        → heard_by (if same then Some (Hear g at) else find (is_about kind) (this_life calls)) ≡ Some grant
        → (if same then Some p.place else heard_in task kind placed) ≡ Some place → IsHeardAt (p ∷ placed) task grant place
    by_kind g at true is accepted k held heard = now g at is accepted (cc) (cc)
    by_kind g at false is accepted k held heard = before held heard

    by_release : (other : Kind) (at : ℕ) (same : Bool) → same_kind other kind ≡ same
        → heard_by (if same then Some (Release other at) else find (is_about kind) (this_life calls)) ≡ Some grant → heard_in task kind placed ≡ Some place
        → IsHeardAt (p ∷ placed) task grant place
    by_release other at true k held heard = absurd (cc)
    by_release other at false k held heard = before held heard

    accepted_call : (c : SliceletCall) → p.event.call ≡ call.Task task c → is_accepted p.event.reply ≡ true → held_grant kind (c ∷ calls) ≡ Some grant
        → (if is_hearing kind c then Some p.place else heard_in task kind placed) ≡ Some place → IsHeardAt (p ∷ placed) task grant place
    accepted_call (Start life at) is accepted held heard = absurd (let none : Option Grant = None in let e : none ≡ Some grant = held in cc)
    accepted_call (Resume life) is accepted held heard = absurd (let none : Option Grant = None in let e : none ≡ Some grant = held in cc)
    accepted_call (Hear g at) is accepted held heard = by_kind g at (same_kind g.lease.kind kind) is accepted refl held heard
    accepted_call (Release other at) is accepted held heard = by_release other at (same_kind other kind) refl held heard

    by_tests : (by : ℕ) (c : SliceletCall) (own accepted : Bool) → p.event.call ≡ call.Task by c → (by == task) ≡ own → is_accepted p.event.reply ≡ accepted
        → held_grant kind (if own then (if accepted then c ∷ calls else calls) else calls) ≡ Some grant
        → (if (own && is_hearing kind c) && accepted then Some p.place else heard_in task kind placed) ≡ Some place → IsHeardAt (p ∷ placed) task grant place
    by_tests by c false accepted is o a held heard = before held heard
    by_tests by c true false is o a held heard = refused (is_hearing kind c) heard
      where
        refused : (hears : Bool) → (if (true && hears) && false then Some p.place else heard_in task kind placed) ≡ Some place → IsHeardAt (p ∷ placed) task grant place
        refused true heard = before held heard
        refused false heard = before held heard
    by_tests by c true true is o a held heard =
        accepted_call c (is ∙ ap (λ (n : ℕ). call.Task n c) (let same : by ≡ task = grind (arith, nat_tests) in same)) a held (hearing (is_hearing kind c) heard)
      where
        hearing : (hears : Bool) → (if (true && hears) && true then Some p.place else heard_in task kind placed) ≡ Some place
            → (if hears then Some p.place else heard_in task kind placed) ≡ Some place
        hearing true heard = heard
        hearing false heard = heard

    pub one_more : (c : ClusterCall) → p.event.call ≡ c → held_grant kind (with_task_call task c p.event.reply calls) ≡ Some grant
        → (if is_hear_by task kind c && is_accepted p.event.reply then Some p.place else heard_in task kind placed) ≡ Some place → IsHeardAt (p ∷ placed) task grant place
    one_more (call.Task by c) is held heard = by_tests by c (by == task) (is_accepted p.event.reply) is refl refl held heard
    one_more _ is held heard = before held heard

  heard_at : (earlier : Past) (placed : List Placed) → held_grant kind (task_calls task (map (λ p. p.event) placed ++ earlier)) ≡ Some grant
      → heard_in task kind placed ≡ Some place → IsHeardAt placed task grant place
  heard_at earlier [] held heard = absurd (cc)
  heard_at earlier (p ∷ placed) held heard =
      one_more p placed (task_calls task (map (λ q. q.event) placed ++ earlier)) (heard_at earlier placed) p.event.call refl held heard

  held_by_calls : (past : Past) (k : Kind) → held_in (history task past) k ≡ Some grant → held_grant k (task_calls task past) ≡ Some grant
  held_by_calls past Guard e = e
  held_by_calls past Bridge e = e

  pub heard_place : (placed : List Placed) (past : Past) → ArePlaced placed past → held_in (history task past) kind ≡ Some grant → heard_in task kind placed ≡ Some place
      → IsHeardAt placed task grant place
  heard_place placed past are held heard =
      heard_at are.0 placed (subst (λ (x : Past). held_grant kind (task_calls task x) ≡ Some grant) are.1 (held_by_calls past kind held)) heard
