-- Where a key may be served, some held lease covers it, and what a token tells.
use Rattle.std.proofs.Common.{◌≡◌, ℕ, ◌≤◌, Bool, true, false, ◌||◌, refl, sym, ◌∙◌, ap, inl, inr, ◌⊎◌, arith}
use Rattle.std.specs.Prelude.{Option, Some, None, Ok, Err, is_some, nat_lt, unwrap_or, if◌then◌else◌}
use Rattle.std.proofs.lemmas.Bool.{and_parts, cases_lt}
use Rattle.std.proofs.lemmas.Bool.Decides.{nat_tests}
use Rattle.machines.specs.Refusals.{when}
use Rattle.lease_rule.specs.declared.lease.Kind.{Kind}
use Rattle.lease_rule.specs.declared.answer.Verdict.{Verdict}
use Rattle.lease_rule.specs.declared.answer.Verdict.TheVariants.{Allow, Deny}
use Rattle.lease_rule.specs.Leases.{SeenLease}
use Rattle.lease_rule.specs.Rule.{SeenHolding, covering_generation, newest_covering, greatest, is_allowed, is_serving, rule}
use Rattle.lease_rule.proofs.Permitting.{permitted_down, permitted_back, permitted_live}
use Rattle.grants.specs.declared.values.Grant.{Grant}
use Rattle.slicelet.specs.States.{SliceletState, holding_in, rule_in_state}
use Rattle.fence.specs.declared.token.Token.{Token}
use Rattle.fence.specs.declared.giving.NoToken.TheVariants.{ManyOwners}
use Rattle.fence.specs.Giving.{token_with, token_by, token_in}

serving_covers : (at : ℕ) (o : Option SeenLease) → is_serving at o ≡ true → is_some (covering_generation o) ≡ true
serving_covers at None e = absurd (cc)
serving_covers at (Some lease) e = by_test lease.covers (and_parts (nat_lt at lease.ends) lease.covers e).1
  where
    by_test : (b : Bool) → b ≡ true → is_some (when b lease.generation) ≡ true
    by_test true f = refl
    by_test false f = absurd (cc)

either : (a b : Bool) → (a || b) ≡ true → (a ≡ true) ⊎ (b ≡ true)
either true b e = inl refl
either false b e = inr e

greatest_some : (p q : Option ℕ) → (is_some p ≡ true) ⊎ (is_some q ≡ true) → is_some (greatest p q) ≡ true
greatest_some None q (inl e) = absurd (cc)
greatest_some None q (inr e) = e
greatest_some (Some first) None e = refl
greatest_some (Some first) (Some second) e = refl

some_of : (o : Option ℕ) (other : ℕ) → is_some o ≡ true → o ≡ Some (unwrap_or o other)
some_of None other e = absurd (cc)
some_of (Some n) other e = refl

pub covered_where_allowed : (h : SeenHolding) (at : ℕ) → is_allowed (rule h at) ≡ true → is_some (newest_covering h) ≡ true
covered_where_allowed h at allowed = by_up h.up refl
  where
    serving : h.up ≡ true → h.last ≤ at → is_some (newest_covering h) ≡ true
    serving up late =
        let some = either (is_serving at h.guard) (is_serving at h.bridge) (sym (permitted_live h at up late) ∙ allowed) in
        greatest_some (covering_generation h.guard) (covering_generation h.bridge)
        (elim some [ inl guard ↦ inl (serving_covers at h.guard guard) | inr bridge ↦ inr (serving_covers at h.bridge bridge) ])

    by_up : (up : Bool) → h.up ≡ up → is_some (newest_covering h) ≡ true
    by_up false e = absurd (let down : is_allowed (rule h at) ≡ false = permitted_down h at e in cc)
    by_up true e = elim (cases_lt at h.last) [
      | inl early ↦ absurd (let back : is_allowed (rule h at) ≡ false = permitted_back h at early in cc)
      | inr late ↦ serving e late
    ]

-- so the greatest generation of the leases that cover it is that of one of them
pub newest_where_allowed : (h : SeenHolding) (at : ℕ) (kind : Kind) (generation : ℕ) → rule h at ≡ Allow kind generation
    → newest_covering h ≡ Some (unwrap_or (newest_covering h) generation)
newest_where_allowed h at kind generation e = some_of (newest_covering h) generation (covered_where_allowed h at (ap is_allowed e))

-- WHAT A TOKEN TELLS

-- slices have at most one owner, the written rule allows the key, and the token has the greatest generation of the leases that cover it
pub record IsTokenOf (most : ℕ) (covers : Grant → Bool) (epoch : ℕ) (s : SliceletState) (at : ℕ) (token : Token) : Type 0 where
  pub single : most ≤ 1
  pub kind : Kind
  pub generation : ℕ
  pub allowed : rule_in_state covers s at ≡ Allow kind generation
  pub newest : newest_covering (holding_in covers s) ≡ Some token.generation
  pub of_epoch : token.epoch ≡ epoch
  pub of_life : token.life ≡ s.life

module _ (most : ℕ) (covers : Grant → Bool) (epoch : ℕ) (s : SliceletState) (at : ℕ) (token : Token) where
  by_verdict : (v : Verdict) → rule_in_state covers s at ≡ v → most ≤ 1 → token_by v epoch s.life (newest_covering (holding_in covers s)) ≡ Ok token
      → IsTokenOf most covers epoch s at token
  by_verdict (Deny why) is single e = absurd (cc)
  by_verdict (Allow kind generation) is single e =
      let h = holding_in covers s in
      let made : token_with epoch (unwrap_or (newest_covering h) generation) s.life ≡ token = cc in
      record {
        single = single;
        kind = kind;
        generation = generation;
        allowed = is;
        newest = newest_where_allowed h at kind generation is ∙ ap (λ (t : Token). Some t.generation) made;
        of_epoch = sym (ap (λ (t : Token). t.epoch) made);
        of_life = sym (ap (λ (t : Token). t.life) made);
      }

  by_owners : (b : Bool) → nat_lt 1 most ≡ b → (if b then Err ManyOwners else token_by (rule_in_state covers s at) epoch s.life (newest_covering (holding_in covers s))) ≡ Ok token
      → IsTokenOf most covers epoch s at token
  by_owners true many e = absurd (cc)
  by_owners false many e = by_verdict (rule_in_state covers s at) refl (grind (arith, nat_tests)) e

  pub token_parts : token_in most covers epoch s at ≡ Ok token → IsTokenOf most covers epoch s at token
  token_parts e = by_owners (nat_lt 1 most) refl e
