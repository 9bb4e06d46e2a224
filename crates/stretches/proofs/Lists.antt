-- Lists of which something holds of each element, by its number.
use Rattle.std.proofs.Common.{◌≡◌, ℕ, ◌+◌, ◌<◌, ◌≤◌, Bool, true, false, List, [], ◌∷◌, ◌++◌, length, length-append, refl, sym, ◌∙◌, ap, subst, arith, eqb-true}
use Rattle.std.specs.Prelude.{◌≢◌, ◌==◌, nat_le, slice_get, Some}
use Rattle.std.proofs.Math.ListN.{set, get_or, length-set}
use Rattle.std.proofs.lemmas.Bool.Decides.{nat_tests}
use Rattle.std.proofs.lemmas.List.{get_or-set_other}
use Rattle.std.proofs.lemmas.Grind.{get_or-set_at}
use Rattle.std.proofs.lemmas.Option.{slice_get_within, get_or_from_slice_get, slice_get-get_or}
use Rattle.cluster.proofs.ActorLists.{get_left, get_last}
use Rattle.stretches.specs.Tasks.{Each}

module _ {A : Type 0} (f : ℕ → A → Type 0) (many : ℕ) (all : List A) (each : Each f many all) where
  -- one at a place
  pub each_at : (place : ℕ) (one : A) → place < length all → one ≡ get_or all place one → f (place + 1) one
  each_at place one l e = each.1 place one (slice_get-get_or all place one l ∙ ap (λ (x : A). Some x) (sym e))

  -- one more
  pub each_push : (new : A) → f (many + 1) new → Each f (many + 1) (all ++ new ∷ [])
  each_push new here = (length-append all (new ∷ []) ∙ ap (λ (n : ℕ). n + 1) each.0, more)
    where
      more : (i : ℕ) (one : A) → slice_get (all ++ new ∷ []) i ≡ Some one → f (i + 1) one
      more i one got = by_place (nat_le (length all) i) refl
        where
          by_place : (b : Bool) → b ≡ nat_le (length all) i → f (i + 1) one
          by_place true t =
              let within : i < length (all ++ new ∷ []) = slice_get_within (all ++ new ∷ []) i one got in
              let count = length-append all (new ∷ []) in
              let same : i ≡ length all = (let high : length all ≤ i = grind (arith, nat_tests) in omega (arith, within, count, high)) in
              let both : Some one ≡ Some new = sym got ∙ ap (slice_get (all ++ new ∷ [])) same ∙ get_last all new in
              let is : new ≡ one = cc in
              let number : many + 1 ≡ i + 1 = ap (λ (n : ℕ). n + 1) (sym (same ∙ each.0)) in
              subst (λ (n : ℕ). f n one) number (subst (λ (x : A). f (many + 1) x) is here)
          by_place false t = each.1 i one (sym (get_left all (new ∷ []) i (grind (arith, nat_tests))) ∙ got)

  -- another one at a place, where what held of the others still holds
  pub each_set : (g : ℕ → A → Type 0) (place : ℕ) (new : A) → place < length all → g (place + 1) new
      → ((i : ℕ) (one : A) → i ≢ place → f (i + 1) one → g (i + 1) one) → Each g many (set all place new)
  each_set g place new inside here others = (length-set all place new ∙ each.0, more)
    where
      more : (i : ℕ) (one : A) → slice_get (set all place new) i ≡ Some one → g (i + 1) one
      more i one got = by_place (i == place) refl
        where
          read : get_or (set all place new) i one ≡ one
          read = get_or_from_slice_get (set all place new) i one one got

          within : i < length all
          within = let l = slice_get_within (set all place new) i one got in let e = length-set all place new in omega (arith, l, e)

          by_place : (b : Bool) → b ≡ (i == place) → g (i + 1) one
          by_place true e =
              let same : i ≡ place = eqb-true i place (sym e) in
              let is : new ≡ one = sym (get_or-set_at all place i new one same inside) ∙ read in
              subst (λ (n : ℕ). g (n + 1) one) (sym same) (subst (λ (x : A). g (place + 1) x) is here)
          by_place false e =
              let other : i ≢ place = λ same. (let t : (i == place) ≡ true = grind (arith, nat_tests) in let h : true ≡ false = sym t ∙ sym e in cc) in
              let old : get_or all i one ≡ one = sym (get_or-set_other all place i new one other) ∙ read in
              others i one other (each.1 i one (slice_get-get_or all i one within ∙ ap (λ (x : A). Some x) old))

-- what is another relation's, where one gives the other at each number
pub each_gives : {A : Type 0} (f g : ℕ → A → Type 0) (many : ℕ) (all : List A) → ((i : ℕ) (one : A) → i < many → f (i + 1) one → g (i + 1) one)
    → Each f many all → Each g many all
each_gives f g many all gives each = (each.0, λ i one got. gives i one (subst (λ (n : ℕ). i < n) each.0 (slice_get_within all i one got)) (each.1 i one got))
