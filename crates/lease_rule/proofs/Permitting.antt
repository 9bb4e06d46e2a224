-- Which keys the written rule allows, without the reasons of its denials.
use Rattle.std.proofs.Common.{◌≡◌, ℕ, ◌<◌, ◌≤◌, Bool, true, false, List, [], ◌∷◌, refl, sym, ◌∙◌, inl, inr, arith}
use Rattle.std.proofs.lemmas.Bool.{cases_lt}
use Rattle.std.proofs.lemmas.Bool.Decides.{nat_tests}
use Rattle.std.specs.Prelude.{Option, Some, None, not, ◌&&◌, ◌||◌, nat_lt, unwrap_or, option_map}
use Rattle.machines.specs.Refusals.{when, first_of}
use Rattle.lease_rule.specs.declared.lease.Kind.{Kind}
use Rattle.lease_rule.specs.declared.lease.Kind.TheVariants.{Guard, Bridge}
use Rattle.lease_rule.specs.declared.answer.Ground.TheVariants.{Down, ClockBack, Ended, NotOwned, NoLease}
use Rattle.lease_rule.specs.declared.answer.Verdict.{Verdict}
use Rattle.lease_rule.specs.declared.answer.Verdict.TheVariants.{Allow, Deny}
use Rattle.lease_rule.specs.Leases.{SeenLease}
use Rattle.lease_rule.specs.Rule.{SeenHolding, allowed_by, rule, is_allowed, is_covered, is_serving, live_generation, greatest}

-- a lease allows the key where it serves it, or it says nothing
lease_allows : (kind : Kind) (at : ℕ) (lease : Option SeenLease) (rest : Verdict) → is_allowed (unwrap_or (allowed_by kind at lease) rest) ≡ (is_serving at lease || is_allowed rest)
lease_allows kind at None rest = refl
lease_allows kind at (Some lease) rest = by_test (nat_lt at lease.ends && lease.covers)
  where
    by_test : (b : Bool) → is_allowed (unwrap_or (option_map (λ generation. Allow kind generation) (when b lease.generation)) rest) ≡ (b || is_allowed rest)
    by_test true = refl
    by_test false = refl

first_or : (check : Option Verdict) (checks : List (Option Verdict)) (rest : Verdict) → unwrap_or (first_of (check ∷ checks)) rest ≡ unwrap_or check (unwrap_or (first_of checks) rest)
first_or None checks rest = refl
first_or (Some verdict) checks rest = refl

-- the cases after the two leases deny
other_cases_deny : (covered : Bool) (newest : Option ℕ) → is_allowed (unwrap_or (first_of (when covered (Deny Ended) ∷ option_map (λ generation. Deny (NotOwned generation)) newest ∷ [])) (Deny NoLease)) ≡ false
other_cases_deny true newest = refl
other_cases_deny false None = refl
other_cases_deny false (Some generation) = refl

or_nothing : (a b : Bool) → (a || (b || false)) ≡ (a || b)
or_nothing true b = refl
or_nothing false true = refl
or_nothing false false = refl

-- the cases of the rule after the task and its clock
leases : SeenHolding → ℕ → List (Option Verdict)
leases h at = allowed_by Guard at h.guard ∷ allowed_by Bridge at h.bridge ∷ when (is_covered h.guard || is_covered h.bridge) (Deny Ended)
    ∷ option_map (λ generation. Deny (NotOwned generation)) (greatest (live_generation at h.guard) (live_generation at h.bridge)) ∷ []

by_leases : (h : SeenHolding) (at : ℕ) → is_allowed (unwrap_or (first_of (leases h at)) (Deny NoLease)) ≡ (is_serving at h.guard || is_serving at h.bridge)
unfolding leases
by_leases h at = rw (first_or, lease_allows, first_or, lease_allows, other_cases_deny) (or_nothing (is_serving at h.guard) (is_serving at h.bridge))

by_cases : (h : SeenHolding) (at : ℕ) (up back : Bool) → Verdict
by_cases h at up back = unwrap_or (first_of (when (not up) (Deny Down) ∷ when back (Deny ClockBack) ∷ leases h at)) (Deny NoLease)

-- a task that was not started may serve nothing
pub permitted_down : (h : SeenHolding) (at : ℕ) → h.up ≡ false → is_allowed (rule h at) ≡ false
permitted_down h at e = rw e refl

-- nor does one at a reading below its last one
pub permitted_back : (h : SeenHolding) (at : ℕ) → at < h.last → is_allowed (rule h at) ≡ false
unfolding by_cases leases
permitted_back h at l = let back : nat_lt at h.last ≡ true = grind (arith, nat_tests) in rw back (by_up h.up)
  where
    by_up : (up : Bool) → is_allowed (by_cases h at up true) ≡ false
    by_up true = refl
    by_up false = refl

-- else a task may serve what its leases do
pub permitted_live : (h : SeenHolding) (at : ℕ) → h.up ≡ true → h.last ≤ at → is_allowed (rule h at) ≡ (is_serving at h.guard || is_serving at h.bridge)
unfolding leases
permitted_live h at e l = let on_time : nat_lt at h.last ≡ false = grind (arith, nat_tests) in rw (e, on_time) (by_leases h at)

serving_earlier : (earlier at : ℕ) (lease : Option SeenLease) → earlier ≤ at → is_serving at lease ≡ true → is_serving earlier lease ≡ true
serving_earlier earlier at None l e = e
serving_earlier earlier at (Some lease) l e = by_tests lease.covers (nat_lt at lease.ends) refl e
  where
    by_tests : (covers live : Bool) → nat_lt at lease.ends ≡ live → (live && covers) ≡ true → (nat_lt earlier lease.ends && covers) ≡ true
    by_tests true true q e = let before : nat_lt earlier lease.ends ≡ true = grind (arith, nat_tests) in rw before refl
    by_tests true false q e = absurd (cc)
    by_tests false true q e = absurd (cc)
    by_tests false false q e = absurd (cc)

-- leases only end: what a task may serve at a reading it may serve at its last one
pub permitted_at_last : (h : SeenHolding) (at : ℕ) → is_allowed (rule h at) ≡ true → is_allowed (rule h h.last) ≡ true
permitted_at_last h at e = by_up h.up refl
  where
    either : (a b c d : Bool) → (a ≡ true → c ≡ true) → (b ≡ true → d ≡ true) → (a || b) ≡ true → (c || d) ≡ true
    either true b c d p q e = rw (p refl) refl
    either false true c true p q e = by_first c
      where
        by_first : (c : Bool) → (c || true) ≡ true
        by_first true = refl
        by_first false = refl
    either false true c false p q e = absurd (let f : false ≡ true = q refl in cc)
    either false false c d p q e = absurd (cc)

    by_up : (up : Bool) → h.up ≡ up → is_allowed (rule h h.last) ≡ true
    by_up false q = absurd (let down : is_allowed (rule h at) ≡ false = permitted_down h at q in cc)
    by_up true q = elim (cases_lt at h.last) [
      | inl early ↦ absurd (let back : is_allowed (rule h at) ≡ false = permitted_back h at early in cc)
      | inr l ↦ (let served : (is_serving at h.guard || is_serving at h.bridge) ≡ true = sym (permitted_live h at q l) ∙ e in
          permitted_live h h.last q (omega arith)
          ∙ either (is_serving at h.guard) (is_serving at h.bridge) (is_serving h.last h.guard) (is_serving h.last h.bridge) (serving_earlier h.last at h.guard l) (serving_earlier h.last at h.bridge l) served)
    ]
