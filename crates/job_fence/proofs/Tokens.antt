-- The lease that gives a token its generation.
use Rattle.std.proofs.Common.{◌≡◌, ℕ, ◌≤◌, Bool, true, false, List, refl, sym, ◌∙◌, ap, subst, inl, inr, ◌⊎◌, arith}
use Rattle.std.specs.Prelude.{Option, Some, None, max, nat_le, option_map}
use Rattle.std.proofs.lemmas.Bool.Decides.{nat_tests}
use Rattle.machines.specs.Refusals.{when}
use Rattle.lease_rule.specs.declared.lease.Kind.{Kind}
use Rattle.lease_rule.specs.declared.lease.Kind.TheVariants.{Guard, Bridge}
use Rattle.lease_rule.specs.Rule.{covering_generation, newest_covering, greatest}
use Rattle.grants.specs.declared.values.Grant.{Grant}
use Rattle.grants.specs.declared.slicelet_call.SliceletCall.{SliceletCall}
use Rattle.slicelet.specs.Calls.{held_grant}
use Rattle.slicelet.specs.Rules.{seen_by}
use Rattle.slicelet.specs.States.{state_after, holding_in}

-- a held lease covers the key and is of this generation, and no held lease that covers the key is of a later one
pub record HasNewestLease (covers : Grant → Bool) (h : List SliceletCall) (generation : ℕ) : Type 0 where
  pub kind : Kind
  pub grant : Grant
  pub is_held : held_grant kind h ≡ Some grant
  pub covered : covers grant ≡ true
  pub told : grant.lease.generation ≡ generation
  pub most : (other : Kind) (g : Grant) → held_grant other h ≡ Some g → covers g ≡ true → g.lease.generation ≤ generation

-- what a held lease, or none, gives a key: its generation where it covers the key
record Gives (covers : Grant → Bool) (o : Option Grant) (generation : Option ℕ) (grant : Grant) : Type 0 where
  held : o ≡ Some grant
  covered : covers grant ≡ true
  given : generation ≡ Some grant.lease.generation

record GivesNone (covers : Grant → Bool) (o : Option Grant) (generation : Option ℕ) : Type 0 where
  uncovered : (grant : Grant) → o ≡ Some grant → covers grant ≡ true → ⊥
  given : generation ≡ None

abbrev Sight : (Grant → Bool) → Option Grant → Option ℕ → Type 0
Sight covers o generation = ((grant : Grant) × Gives covers o generation grant) ⊎ GivesNone covers o generation

sight : (covers : Grant → Bool) (o : Option Grant) → Sight covers o (covering_generation (option_map (seen_by covers) o))
sight covers None = inr record { uncovered = λ grant e c. absurd (cc); given = refl }
sight covers (Some grant) = by_test (covers grant) refl
  where
    by_test : (b : Bool) → covers grant ≡ b → Sight covers (Some grant) (when b grant.lease.generation)
    by_test true e = inl (grant, record { held = refl; covered = e; given = refl })
    by_test false e = inr record {
      uncovered = λ other same c.
          let now : covers other ≡ false = let g : grant ≡ other = cc in sym (ap covers g) ∙ e in
          absurd (let f : true ≡ false = sym c ∙ now in cc);
      given = refl;
    }

one_of : (a b n : ℕ) → n ≡ max a b → (a ≤ n) × (b ≤ n) × ((a ≡ n) ⊎ (b ≡ n))
one_of a b n e = by_test (nat_le b a) refl
  where
    by_test : (t : Bool) → t ≡ nat_le b a → (a ≤ n) × (b ≤ n) × ((a ≡ n) ⊎ (b ≡ n))
    by_test true t = (let low : b ≤ a = grind (arith, nat_tests) in (omega (arith, e, low), omega (arith, e, low), inl (omega (arith, e, low))))
    by_test false t = (let high : a ≤ b = grind (arith, nat_tests) in (omega (arith, e, high), omega (arith, e, high), inr (omega (arith, e, high))))

greatest_both : (p q : Option ℕ) (a b n : ℕ) → p ≡ Some a → q ≡ Some b → greatest p q ≡ Some n → n ≡ max a b
greatest_both None q a b n e f g = absurd (cc)
greatest_both (Some x) None a b n e f g = absurd (cc)
greatest_both (Some x) (Some y) a b n e f g =
    let one : x ≡ a = cc in
    let two : y ≡ b = cc in
    let most : max x y ≡ n = cc in
    sym (ap (λ (k : ℕ). max x k) (sym two) ∙ most) ∙ ap (λ (k : ℕ). max k b) one

greatest_first : (p q : Option ℕ) (a n : ℕ) → p ≡ Some a → q ≡ None → greatest p q ≡ Some n → a ≡ n
greatest_first None q a n e f g = absurd (cc)
greatest_first (Some x) None a n e f g = cc
greatest_first (Some x) (Some y) a n e f g = absurd (cc)

greatest_second : (p q : Option ℕ) (b n : ℕ) → p ≡ None → q ≡ Some b → greatest p q ≡ Some n → b ≡ n
greatest_second None q b n e f g = cc
greatest_second (Some x) q b n e f g = absurd (cc)

greatest_none : (p q : Option ℕ) (n : ℕ) → p ≡ None → q ≡ None → greatest p q ≡ Some n → ⊥
greatest_none None None n e f g = absurd (cc)
greatest_none None (Some y) n e f g = absurd (cc)
greatest_none (Some x) q n e f g = absurd (cc)

module _ (covers : Grant → Bool) (h : List SliceletCall) (generation : ℕ) where
  -- no lease held of either kind gives more
  most_of : (guard bridge : Option Grant) → held_grant Guard h ≡ guard → held_grant Bridge h ≡ bridge
      → ((g : Grant) → guard ≡ Some g → covers g ≡ true → g.lease.generation ≤ generation)
      → ((g : Grant) → bridge ≡ Some g → covers g ≡ true → g.lease.generation ≤ generation)
      → (other : Kind) (g : Grant) → held_grant other h ≡ Some g → covers g ≡ true → g.lease.generation ≤ generation
  most_of guard bridge e f by_guard by_bridge Guard g held c = by_guard g (sym e ∙ held) c
  most_of guard bridge e f by_guard by_bridge Bridge g held c = by_bridge g (sym f ∙ held) c

  same_grant : (o : Option Grant) (a b : Grant) → o ≡ Some a → o ≡ Some b → a ≡ b
  same_grant None a b e f = absurd (cc)
  same_grant (Some x) a b e f = cc

  -- a lease that is held is at most what it gives
  at_most : (o : Option Grant) (a : Grant) → o ≡ Some a → a.lease.generation ≤ generation
      → (g : Grant) → o ≡ Some g → covers g ≡ true → g.lease.generation ≤ generation
  at_most o a held low g same c = subst (λ (x : Grant). x.lease.generation ≤ generation) (same_grant o a g held same) low

  by_sights : (guard bridge : Option Grant) (p q : Option ℕ) → held_grant Guard h ≡ guard → held_grant Bridge h ≡ bridge → Sight covers guard p → Sight covers bridge q
      → greatest p q ≡ Some generation → HasNewestLease covers h generation
  by_sights guard bridge p q e f (inl (a, one)) (inl (b, two)) n =
      let both = one_of a.lease.generation b.lease.generation generation (greatest_both p q a.lease.generation b.lease.generation generation one.given two.given n) in
      let most = most_of guard bridge e f (at_most guard a one.held both.0) (at_most bridge b two.held both.1) in
      elim both.2 [
        | inl told ↦ record { kind = Guard; grant = a; is_held = e ∙ one.held; covered = one.covered; told = told; most = most }
        | inr told ↦ record { kind = Bridge; grant = b; is_held = f ∙ two.held; covered = two.covered; told = told; most = most }
      ]
  by_sights guard bridge p q e f (inl (a, one)) (inr none) n =
      let told = greatest_first p q a.lease.generation generation one.given none.given n in
      record {
        kind = Guard;
        grant = a;
        is_held = e ∙ one.held;
        covered = one.covered;
        told = told;
        most = most_of guard bridge e f (at_most guard a one.held (omega (arith, told))) (λ g same c. absurd (none.uncovered g same c));
      }
  by_sights guard bridge p q e f (inr none) (inl (b, two)) n =
      let told = greatest_second p q b.lease.generation generation none.given two.given n in
      record {
        kind = Bridge;
        grant = b;
        is_held = f ∙ two.held;
        covered = two.covered;
        told = told;
        most = most_of guard bridge e f (λ g same c. absurd (none.uncovered g same c)) (at_most bridge b two.held (omega (arith, told)));
      }
  by_sights guard bridge p q e f (inr none) (inr neither) n = absurd (greatest_none p q generation none.given neither.given n)

pub newest_lease : (covers : Grant → Bool) (task : ℕ) (h : List SliceletCall) (generation : ℕ)
    → newest_covering (holding_in covers (state_after task h)) ≡ Some generation → HasNewestLease covers h generation
newest_lease covers task h generation e =
    by_sights covers h generation (held_grant Guard h) (held_grant Bridge h)
    (covering_generation (option_map (seen_by covers) (held_grant Guard h))) (covering_generation (option_map (seen_by covers) (held_grant Bridge h)))
    refl refl (sight covers (held_grant Guard h)) (sight covers (held_grant Bridge h)) e
