-- What a task keeps of a bridge lease: no older guard lease of the same life can serve once it is gone.
use Rattle.std.proofs.Common.{◌≡◌, ◌∙◌, ℕ, ◌<◌, ◌≤◌, Bool, true, false, List, ◌∷◌, refl, sym, subst, inl, inr, ◌⊎◌, arith}
use Rattle.std.specs.Prelude.{Option, Some, None, is_some, is_none, nat_le, find, if◌then◌else◌}
use Rattle.std.proofs.lemmas.Bool.Decides.{nat_tests}
use Rattle.lease_rule.specs.declared.lease.Kind.{Kind}
use Rattle.lease_rule.specs.declared.lease.Kind.TheVariants.{Guard, Bridge}
use Rattle.lease_rule.specs.Leases.{same_kind}
use Rattle.lease_rule.specs.Rule.{greatest}
use Rattle.grants.specs.declared.values.Grant.{Grant}
use Rattle.grants.specs.declared.slicelet_call.SliceletCall.{SliceletCall}
use Rattle.grants.specs.declared.slicelet_call.SliceletCall.TheVariants.{Start, Hear, Release, Resume}
use Rattle.slicelet.specs.Calls.{life_of, is_started, is_about, heard_by, this_life, held_grant, greatest_heard}
use Rattle.slicelet.specs.States.{state_after, held_in}
use Rattle.slicelet.specs.Accepted.{AreAccepted}
use Rattle.slicelet.specs.Laws.{HoldsOwnLeases, IsUpTo}
use Rattle.slicelet.proofs.Accepting.{start_accepted, hear_accepted, release_accepted, resume_accepted}
use Rattle.fence.specs.Giving.{is_reached, is_superseded, may_give_up}
use Rattle.job_fence.specs.Care.{IsCarefulTaskCall}

-- a bridge lease is held, and it or a later one was heard; or a guard lease was heard that is of its generation or a later one
pub record IsKept (IsGiven : Grant → Type 0) (number generation : ℕ) (h : List SliceletCall) : Type 0 where
  pub bridge : IsUpTo number (greatest_heard Bridge h)
  pub instead : (is_some (held_grant Bridge h) ≡ true) ⊎ ((guard : Grant) × IsGiven guard × (generation ≤ guard.lease.generation) × IsUpTo guard.number (greatest_heard Guard h))

-- so it is while the life runs in which the lease was heard, and after it a later one does, or none
abbrev pub IsReserved : (Grant → Type 0) → ℕ → ℕ → ℕ → List SliceletCall → Type 0
IsReserved IsGiven number generation life h = (life ≤ life_of h) × ((life < life_of h) ⊎ ((is_started h ≡ false) ⊎ IsKept IsGiven number generation h))

up_to_more : (number : ℕ) (first second : Option ℕ) → IsUpTo number second → IsUpTo number (greatest first second)
up_to_more number None second h = h
up_to_more number (Some m) None h = absurd h
up_to_more number (Some m) (Some n) h = omega (arith, h)

-- the number of a lease that is held is at least any that was heard of its kind
pub held_above : (task number : ℕ) (h : List SliceletCall) (kind : Kind) (grant : Grant) → HoldsOwnLeases task h → held_grant kind h ≡ Some grant
    → IsUpTo number (greatest_heard kind h) → number ≤ grant.number
held_above task number h kind grant own held up = subst (IsUpTo number) (own.own kind grant held).greatest up

pub held_up_to : (task : ℕ) (h : List SliceletCall) (kind : Kind) (grant : Grant) → HoldsOwnLeases task h → held_grant kind h ≡ Some grant
    → IsUpTo grant.number (greatest_heard kind h)
held_up_to task h kind grant own held =
    let itself : IsUpTo grant.number (Some grant.number) = omega arith in
    subst (IsUpTo grant.number) (sym (own.own kind grant held).greatest) itself

module _ (task : ℕ) (IsGiven : Grant → Type 0) (number generation life : ℕ) where
  -- one more lease heard
  heard_held : (grant : Grant) (at : ℕ) (h : List SliceletCall) (kind : Kind) → is_some (held_grant kind h) ≡ true → is_some (held_grant kind (Hear grant at ∷ h)) ≡ true
  heard_held grant at h kind held = by_test (same_kind grant.lease.kind kind) held
    where
      by_test : (b : Bool) → is_some (heard_by (find (is_about kind) (this_life h))) ≡ true
          → is_some (heard_by (if b then Some (Hear grant at) else find (is_about kind) (this_life h))) ≡ true
      by_test true held = refl
      by_test false held = held

  kept_heard : (grant : Grant) (at : ℕ) (h : List SliceletCall) → IsKept IsGiven number generation h → IsKept IsGiven number generation (Hear grant at ∷ h)
  kept_heard grant at h k = record {
    bridge = up_to_more number (if same_kind grant.lease.kind Bridge then Some grant.number else None) (greatest_heard Bridge h) k.bridge;
    instead = elim k.instead [
      | inl held ↦ inl (heard_held grant at h Bridge held)
      | inr guard ↦ inr (guard.0, guard.1, guard.2, up_to_more guard.0.number (if same_kind grant.lease.kind Guard then Some grant.number else None) (greatest_heard Guard h) guard.3)
    ];
  }

  -- a bridge lease given up
  reached : (bridge : Grant) (o : Option Grant) → is_reached bridge.lease.generation o ≡ true → (guard : Grant) × (o ≡ Some guard) × (bridge.lease.generation ≤ guard.lease.generation)
  reached bridge None e = absurd (cc)
  reached bridge (Some guard) e = (guard, refl, (let t : nat_le bridge.lease.generation guard.lease.generation ≡ true = e in grind (arith, nat_tests)))

  module _ (h : List SliceletCall) (own : HoldsOwnLeases task h)
      (given : (kind : Kind) (grant : Grant) → held_grant kind h ≡ Some grant → IsGiven grant)
      (later : (grant : Grant) → IsGiven grant → number ≤ grant.number → generation ≤ grant.lease.generation) where
    instead_of : (o : Option Grant) → held_grant Bridge h ≡ o → is_superseded (held_grant Guard h) o ≡ true → is_none o ≡ false → IsUpTo number (greatest_heard Bridge h)
        → (guard : Grant) × IsGiven guard × (generation ≤ guard.lease.generation) × IsUpTo guard.number (greatest_heard Guard h)
    instead_of None held superseded some up = absurd (cc)
    instead_of (Some bridge) held superseded some up =
        let low = later bridge (given Bridge bridge held) (held_above task number h Bridge bridge own held up) in
        let g = reached bridge (held_grant Guard h) superseded in
        let more = g.2 in
        (g.0, given Guard g.0 g.1, omega (arith, low, more), held_up_to task h Guard g.0 own g.1)

    kept_released : (kind : Kind) (at : ℕ) → is_none (held_in (state_after task h) kind) ≡ false → may_give_up (state_after task h) kind ≡ true
        → IsKept IsGiven number generation h → IsKept IsGiven number generation (Release kind at ∷ h)
    kept_released Guard at some may k = record { bridge = k.bridge; instead = k.instead }
    kept_released Bridge at some may k = record { bridge = k.bridge; instead = inr (instead_of (held_grant Bridge h) refl may some k.bridge) }

    while_started : {X : Type 0} → is_started h ≡ true → is_started h ≡ false → X
    while_started up down = absurd (let f : true ≡ false = sym up ∙ down in cc)

    after_hear : (grant : Grant) (at : ℕ) → is_started h ≡ true → (life < life_of h) ⊎ ((is_started h ≡ false) ⊎ IsKept IsGiven number generation h)
        → (life < life_of h) ⊎ ((is_started h ≡ false) ⊎ IsKept IsGiven number generation (Hear grant at ∷ h))
    after_hear grant at up (inl later) = inl later
    after_hear grant at up (inr (inl down)) = while_started up down
    after_hear grant at up (inr (inr kept)) = inr (inr (kept_heard grant at h kept))

    after_release : (kind : Kind) (at : ℕ) → is_started h ≡ true → is_none (held_in (state_after task h) kind) ≡ false → may_give_up (state_after task h) kind ≡ true
        → (life < life_of h) ⊎ ((is_started h ≡ false) ⊎ IsKept IsGiven number generation h)
        → (life < life_of h) ⊎ ((is_started h ≡ false) ⊎ IsKept IsGiven number generation (Release kind at ∷ h))
    after_release kind at up some may (inl later) = inl later
    after_release kind at up some may (inr (inl down)) = while_started up down
    after_release kind at up some may (inr (inr kept)) = inr (inr (kept_released kind at some may kept))

    pub reserved_call : (c : SliceletCall) → AreAccepted task (c ∷ h) → IsCarefulTaskCall (state_after task h) c → IsReserved IsGiven number generation life h
        → IsReserved IsGiven number generation life (c ∷ h)
    reserved_call (Start newer at) a careful r =
        let rises = (start_accepted (state_after task h) newer at a.0).newer in
        let low = r.0 in
        (omega (arith, rises, low), inl (omega (arith, rises, low)))
    reserved_call (Resume newer) a careful r =
        let rises = resume_accepted (state_after task h) newer a.0 in
        let low = r.0 in
        (omega (arith, rises, low), inr (inl refl))
    reserved_call (Hear grant at) a careful r = (r.0, after_hear grant at (hear_accepted (state_after task h) grant at a.0).started r.1)
    reserved_call (Release kind at) a careful r =
        let taken = release_accepted (state_after task h) kind at a.0 in
        (r.0, after_release kind at taken.started taken.is_held careful r.1)
