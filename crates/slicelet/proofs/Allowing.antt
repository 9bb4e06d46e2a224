-- An allowed key has a held lease that is live and covers it.
use Rattle.std.proofs.Common.{◌≡◌, ℕ, Bool, true, false, List, [], ◌∷◌, refl, subst, inl, inr, ◌⊎◌, arith}
use Rattle.std.proofs.lemmas.Bool.Decides.{nat_tests}
use Rattle.std.specs.Prelude.{Option, Some, None, ◌&&◌, ◌||◌, not, nat_lt, option_map, unwrap_or, IsTrue}
use Rattle.machines.specs.Refusals.{when, first_of}
use Rattle.lease_rule.specs.declared.lease.Kind.{Kind}
use Rattle.lease_rule.specs.declared.lease.Kind.TheVariants.{Guard, Bridge}
use Rattle.lease_rule.specs.declared.answer.Ground.{Ground}
use Rattle.lease_rule.specs.declared.answer.Ground.TheVariants.{Down, ClockBack, Ended, NotOwned, NoLease}
use Rattle.lease_rule.specs.declared.answer.Verdict.{Verdict}
use Rattle.lease_rule.specs.declared.answer.Verdict.TheVariants.{Allow, Deny}
use Rattle.lease_rule.specs.Rule.{allowed_by, is_covered, greatest, live_generation}
use Rattle.grants.specs.declared.values.Grant.{Grant}
use Rattle.grants.specs.declared.slicelet_call.SliceletCall.{SliceletCall}
use Rattle.slicelet.specs.Calls.{is_started, last_reading, held_grant}
use Rattle.slicelet.specs.Rules.{seen_by, rule_after, is_allowed, is_permitted}
use Rattle.slicelet.specs.Laws.{HasCoveringLease}

-- the verdict of some cases of the rule
verdict_of : List (Option Verdict) → Verdict
verdict_of cases = unwrap_or (first_of cases) (Deny NoLease)

module _ (kind : Kind) (generation : ℕ) where
  past_denial : (b : Bool) (why : Ground) (cases : List (Option Verdict)) → verdict_of (when b (Deny why) ∷ cases) ≡ Allow kind generation
      → verdict_of cases ≡ Allow kind generation
  unfolding verdict_of
  past_denial true why cases a = absurd (cc)
  past_denial false why cases a = a

  no_case : (o : Option ℕ) → verdict_of (option_map (λ owned. Deny (NotOwned owned)) o ∷ []) ≡ Allow kind generation → ⊥
  unfolding verdict_of
  no_case None a = absurd (cc)
  no_case (Some owned) a = absurd (cc)

  module _ (covers : Grant → Bool) (h : List SliceletCall) (at : ℕ) where
    past_lease : (own : Kind) (o : Option Grant) (cases : List (Option Verdict)) → held_grant own h ≡ o
        → verdict_of (allowed_by own at (option_map (seen_by covers) o) ∷ cases) ≡ Allow kind generation
        → HasCoveringLease covers h at kind generation ⊎ (verdict_of cases ≡ Allow kind generation)
    unfolding verdict_of
    past_lease own None cases e a = inr a
    past_lease own (Some grant) cases e a = by_tests (nat_lt at grant.lease.ends) (covers grant) refl refl a
      where
        by_tests : (live covered : Bool) → nat_lt at grant.lease.ends ≡ live → covers grant ≡ covered
            → unwrap_or (first_of (option_map (λ given. Allow own given) (when (live && covered) grant.lease.generation) ∷ cases)) (Deny NoLease) ≡ Allow kind generation
            → HasCoveringLease covers h at kind generation ⊎ (unwrap_or (first_of cases) (Deny NoLease) ≡ Allow kind generation)
        by_tests true true l c a =
            let same : own ≡ kind = cc in
            inl (record { grant = grant; is_held = subst (λ k. held_grant k h ≡ Some grant) same e; live = grind (arith, nat_tests); covered = c; told = cc })
        by_tests true false l c a = inr a
        by_tests false covered l c a = inr a

    pub covering_lease : rule_after covers h at ≡ Allow kind generation → HasCoveringLease covers h at kind generation
    unfolding verdict_of
    covering_lease a =
        let guard = option_map (seen_by covers) (held_grant Guard h) in
        let bridge = option_map (seen_by covers) (held_grant Bridge h) in
        let rest : List (Option Verdict) = option_map (λ owned. Deny (NotOwned owned)) (greatest (live_generation at guard) (live_generation at bridge)) ∷ [] in
        let ended : List (Option Verdict) = when (is_covered guard || is_covered bridge) (Deny Ended) ∷ rest in
        let bridges : List (Option Verdict) = allowed_by Bridge at bridge ∷ ended in
        let guards : List (Option Verdict) = allowed_by Guard at guard ∷ bridges in
        let up = past_denial (not (is_started h)) Down (when (nat_lt at (last_reading h)) (Deny ClockBack) ∷ guards) a in
        let on = past_denial (nat_lt at (last_reading h)) ClockBack guards up in
        elim (past_lease Guard (held_grant Guard h) bridges refl on) [
          | inl found ↦ found
          | inr b ↦ elim (past_lease Bridge (held_grant Bridge h) ended refl b) [
            | inl found ↦ found
            | inr r ↦ absurd (no_case (greatest (live_generation at guard) (live_generation at bridge)) (past_denial (is_covered guard || is_covered bridge) Ended rest r))
          ]
        ]

-- so has a permitted one, whatever its verdict tells
pub permitting_lease : (covers : Grant → Bool) (h : List SliceletCall) (at : ℕ) → IsTrue (is_permitted covers h at)
    → (kind : Kind) × (generation : ℕ) × HasCoveringLease covers h at kind generation
permitting_lease covers h at permitted = by_verdict (rule_after covers h at) refl permitted
  where
    by_verdict : (v : Verdict) → rule_after covers h at ≡ v → is_allowed v ≡ true → (kind : Kind) × (generation : ℕ) × HasCoveringLease covers h at kind generation
    by_verdict (Allow kind generation) e a = (kind, generation, covering_lease kind generation covers h at e)
    by_verdict (Deny why) e a = absurd (cc)
