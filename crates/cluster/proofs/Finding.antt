-- What was made is found by its number.
use Rattle.std.proofs.Common.{◌≡◌, ℕ, ◌+◌, ◌-◌, Bool, true, false, List, refl, sym, ◌∙◌, ap, arith}
use Rattle.std.specs.Prelude.{◌==◌, Option, Some, None, slice_get, Contains, reverse, if◌then◌else◌, get_or}
use Rattle.std.specs.List.{list_any}
use Rattle.std.proofs.lemmas.Bool.Decides.{nat_tests}
use Rattle.std.proofs.lemmas.List.Folds.{list_any_at}
use Rattle.std.proofs.lemmas.List.Sorted.{list_any-IsPermutation, IsPermutation-reverse}
use Rattle.std.proofs.lemmas.Map.Views.{list_any-from_Contains}
use Rattle.std.proofs.lemmas.Option.{slice_get-get_or, slice_get_within, get_or_from_slice_get}
use Rattle.grants.specs.declared.values.Grant.{Grant}
use Rattle.grants.specs.Equality.{grant_eq, grant_equivalence}
use Rattle.lease_table.specs.OpenRows.{grant_numbered}
use Rattle.cluster.specs.Numbers.{with_number}
use Rattle.cluster.proofs.Sameness.{equal_grants, is_member}

-- a test finds the same in a list and in its reverse
pub any_reversed : {A : Type 0} (test : A → Bool) (xs ys : List A) → reverse xs ≡ ys → list_any test xs ≡ list_any test ys
any_reversed test xs ys e = list_any-IsPermutation test xs (reverse xs) (IsPermutation-reverse xs) ∙ ap (list_any test) e

-- a grant that was found, or none, is this grant
abbrev pub is_grant : Grant → Option Grant → Bool
is_grant grant None = false
is_grant grant (Some other) = grant_eq grant other

same_grant : (grant : Grant) → grant_eq grant grant ≡ true
same_grant grant = grant_equivalence.refl grant

among_numbered : (grants : List Grant) (number : ℕ) (other : Grant) → with_number number grants ≡ Some other → Contains grants other
among_numbered grants number other e = by_test (number == 0) e
  where
    by_test : (b : Bool) → (if b then None else slice_get grants (number - 1)) ≡ Some other → Contains grants other
    by_test true e = absurd (cc)
    by_test false e = (number - 1, slice_get_within grants (number - 1) other e, get_or_from_slice_get grants (number - 1) other other e)

-- a grant that has a number was sent
pub numbered_sent : (grants : List Grant) (number : ℕ) (grant : Grant) → with_number number grants ≡ Some grant → list_any (grant_eq grant) grants ≡ true
numbered_sent grants number grant e = list_any-from_Contains grant_equivalence grant grants (among_numbered grants number grant e)

module _ (grants : List Grant) (place : (i : ℕ) → grant_numbered (i + 1) grants ≡ slice_get grants i)
    (found : (number : ℕ) (grant : Grant) → grant_numbered number grants ≡ Some grant → Contains grants grant × (grant.number ≡ number)) where
  -- a grant of the list has its place by its number
  pub numbered_own : (grant : Grant) → Contains grants grant → with_number grant.number grants ≡ Some grant
  numbered_own grant among =
      let i = among.0 in
      let here : slice_get grants i ≡ Some grant = slice_get-get_or grants i grant among.1 ∙ ap (λ (g : Grant). Some g) among.2 in
      let number : grant.number ≡ i + 1 = (found (i + 1) grant (place i ∙ here)).1 in
      let some : (grant.number == 0) ≡ false = grind (arith, nat_tests, number) in
      let same : grant.number - 1 ≡ i = omega (arith, number) in
      rw (some, same) here

  -- a grant has the number by which it is found
  pub numbered_as : (number : ℕ) (grant : Grant) → with_number number grants ≡ Some grant → grant.number ≡ number
  numbered_as number grant e = by_test (number == 0) refl e
    where
      by_test : (b : Bool) → (number == 0) ≡ b → (if b then None else slice_get grants (number - 1)) ≡ Some grant → grant.number ≡ number
      by_test true is e = absurd (cc)
      by_test false is e =
          let next : number - 1 + 1 ≡ number = grind (arith, nat_tests, is) in
          (found (number - 1 + 1) grant (place (number - 1) ∙ e)).1 ∙ next

  pub sent_by_number : (grant : Grant) → is_grant grant (with_number grant.number grants) ≡ list_any (grant_eq grant) grants
  sent_by_number grant = by_test (list_any (grant_eq grant) grants) refl
    where
      by_found : (o : Option Grant) → o ≡ with_number grant.number grants → false ≡ list_any (grant_eq grant) grants → is_grant grant o ≡ false
      by_found None e none = refl
      by_found (Some other) e none = by_same (grant_eq grant other) refl
        where
          among : Contains grants other
          among = among_numbered grants grant.number other (sym e)

          by_same : (b : Bool) → b ≡ grant_eq grant other → b ≡ false
          by_same false t = refl
          by_same true t =
              let hit : grant_eq grant (get_or grants among.0 other) ≡ true = ap (grant_eq grant) among.2 ∙ sym t in
              let some : list_any (grant_eq grant) grants ≡ true = list_any_at (grant_eq grant) grants among.0 other among.1 hit in
              absurd (let f : false ≡ true = none ∙ some in cc)

      by_test : (b : Bool) → b ≡ list_any (grant_eq grant) grants → is_grant grant (with_number grant.number grants) ≡ b
      by_test true t =
          let among : Contains grants grant = is_member grant_eq equal_grants grant grants (sym t) in
          ap (is_grant grant) (numbered_own grant among) ∙ same_grant grant
      by_test false t = by_found (with_number grant.number grants) refl t

  -- the same of a grant that is kept or not
  pub known_by_number : (b : Bool) (grant : Grant) → is_grant grant (if b then None else with_number grant.number grants) ≡ (if b then false else list_any (grant_eq grant) grants)
  known_by_number true grant = refl
  known_by_number false grant = sent_by_number grant
