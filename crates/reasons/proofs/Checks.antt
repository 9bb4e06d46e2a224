-- Lists of checks, of which the first that holds refuses a call.
use Rattle.std.proofs.Common.{◌≡◌, Bool, true, false, List, [], ◌∷◌, refl, sym, ap}
use Rattle.std.specs.Prelude.{Option, Some, None, Err, find, if◌then◌else◌}
use Rattle.machines.specs.Answers.{with_named_reply}
use Rattle.machines.specs.Refusals.{when, first_of, unless_refused}

module _ {M R S E : Type 0} (name : R → S) (p : M × R) (e : E) where
  -- a step is refused by its first check that holds
  pub first_check : (o : Option E) → with_named_reply name (unless_refused o p) ≡ Err e → o ≡ Some e
  first_check None is = absurd (cc)
  first_check (Some why) is = (let same : why ≡ e = cc in ap (λ (w : E). Some w) same)

module _ {E : Type 0} (e : E) where
  -- a check of another refusal is passed
  pub passed : (b : Bool) (why : E) (checks : List (Option E)) → (why ≡ e → ⊥) → first_of (when b why ∷ checks) ≡ Some e → first_of checks ≡ Some e
  passed true why checks other is = absurd (other (cc))
  passed false why checks other is = is

  -- the check of this refusal holds, where none after it gives the same
  pub holds : (b : Bool) (why : E) (checks : List (Option E)) → (first_of checks ≡ Some e → ⊥) → first_of (when b why ∷ checks) ≡ Some e → b ≡ true
  holds true why checks none is = refl
  holds false why checks none is = absurd (none is)

  pub same : (b : Bool) (why : E) (checks : List (Option E)) → (first_of checks ≡ Some e → ⊥) → first_of (when b why ∷ checks) ≡ Some e → why ≡ e
  same true why checks none is = cc
  same false why checks none is = absurd (none is)

  pub never : (b : Bool) (why : E) (checks : List (Option E)) → (why ≡ e → ⊥) → (first_of checks ≡ Some e → ⊥) → first_of (when b why ∷ checks) ≡ Some e → ⊥
  never b why checks other rest is = rest (passed b why checks other is)

  pub no_check : first_of [] ≡ Some e → ⊥
  no_check is = cc

-- what is found is so
pub found : {A : Type 0} (p : A → Bool) (xs : List A) (x : A) → find p xs ≡ Some x → p x ≡ true
found p [] x is = absurd (cc)
found p (y ∷ xs) x is = by_test (p y) refl is (λ e. found p xs x e)
  where
    by_test : (b : Bool) → p y ≡ b → (if b then Some y else find p xs) ≡ Some x → (find p xs ≡ Some x → p x ≡ true) → p x ≡ true
    by_test true t e rest = (let same : y ≡ x = cc in rw (sym same) t)
    by_test false t e rest = rest e
