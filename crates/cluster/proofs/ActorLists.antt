-- Lists of actors, the first of number 1.
use Rattle.std.proofs.Common.{◌≡◌, ℕ, zero, suc, ◌+◌, ◌<◌, ◌≤◌, Bool, true, false, List, [], ◌∷◌, ◌++◌, length, length-append, refl, sym, ◌∙◌, ap, subst, arith, eqb-true}
use Rattle.std.specs.Prelude.{◌≢◌, ◌==◌, nat_le, slice_get, Some}
use Rattle.std.proofs.Math.ListN.{set, get_or, length-set}
use Rattle.std.proofs.lemmas.Bool.Decides.{nat_tests}
use Rattle.std.proofs.lemmas.List.{get_or-set_other}
use Rattle.std.proofs.lemmas.Grind.{get_or-set_at}
use Rattle.std.proofs.lemmas.Option.{slice_get_within, get_or_from_slice_get, slice_get-get_or}
use Rattle.machines.specs.Numbers.{is_within}
use Rattle.cluster.specs.ActorLists.{AreActors}

-- an actor at a place of its list is of the job
pub within_at : (place number most : ℕ) → place + 1 ≡ number → place < most → is_within number most ≡ true
within_at place number most e l =
    let first : nat_le 1 number ≡ true = grind (arith, nat_tests) in
    let last : nat_le number most ≡ true = grind (arith, nat_tests) in
    rw (first, last) refl

pub of_job : {A : Type 0} (f : ℕ → A) (many : ℕ) (actors : List A) → AreActors f many actors → (place number : ℕ) → place + 1 ≡ number
    → place < length actors → is_within number many ≡ true
of_job f many actors are place number e inside = within_at place number many e (subst (λ (n : ℕ). place < n) are.0 inside)

pub get_left : {A : Type 0} (xs ys : List A) (i : ℕ) → i < length xs → slice_get (xs ++ ys) i ≡ slice_get xs i
get_left [] ys i l = absurd (omega arith)
get_left (x ∷ xs) ys zero l = refl
get_left (x ∷ xs) ys (suc i) l = get_left xs ys i (omega arith)

pub get_last : {A : Type 0} (xs : List A) (x : A) → slice_get (xs ++ x ∷ []) (length xs) ≡ Some x
get_last [] x = refl
get_last (y ∷ xs) x = get_last xs x

module _ {A : Type 0} (f g : ℕ → A) (many : ℕ) (actors : List A) (are : AreActors f many actors) (place : ℕ) (inside : place < length actors) where
  -- the actor at a place
  pub actor_at : (a : A) → a ≡ get_or actors place a → a ≡ f (place + 1)
  actor_at a e = are.1 place a (slice_get-get_or actors place a inside ∙ ap (λ (x : A). Some x) (sym e))

  -- one of the actors is another now
  pub actors_set : (new : A) → new ≡ g (place + 1) → ((i : ℕ) → i ≢ place → f (i + 1) ≡ g (i + 1)) → AreActors g many (set actors place new)
  actors_set new here others = (length-set actors place new ∙ are.0, each)
    where
      each : (i : ℕ) (a : A) → slice_get (set actors place new) i ≡ Some a → a ≡ g (i + 1)
      each i a got = by_place (i == place) refl
        where
          read : get_or (set actors place new) i a ≡ a
          read = get_or_from_slice_get (set actors place new) i a a got

          within : i < length actors
          within = let l = slice_get_within (set actors place new) i a got in let e = length-set actors place new in omega (arith, l, e)

          by_place : (b : Bool) → b ≡ (i == place) → a ≡ g (i + 1)
          by_place true e =
              let same : i ≡ place = eqb-true i place (sym e) in
              let is : new ≡ a = sym (get_or-set_at actors place i new a same inside) ∙ read in
              sym is ∙ here ∙ ap (λ (m : ℕ). g (m + 1)) (sym same)
          by_place false e =
              let other : i ≢ place = λ same. (let t : (i == place) ≡ true = grind (arith, nat_tests) in let h : true ≡ false = sym t ∙ sym e in cc) in
              let old : get_or actors i a ≡ a = sym (get_or-set_other actors place i new a other) ∙ read in
              are.1 i a (slice_get-get_or actors i a within ∙ ap (λ (x : A). Some x) old) ∙ others i other

-- one actor more
pub actors_push : {A : Type 0} (f : ℕ → A) (many : ℕ) (actors : List A) (new : A) → AreActors f many actors → new ≡ f (many + 1)
    → AreActors f (many + 1) (actors ++ new ∷ [])
actors_push f many actors new are is = (length-append actors (new ∷ []) ∙ ap (λ (n : ℕ). n + 1) are.0, each)
  where
    each : (i : ℕ) (a : _) → slice_get (actors ++ new ∷ []) i ≡ Some a → a ≡ f (i + 1)
    each i a got = by_place (nat_le (length actors) i) refl
      where
        by_place : (b : Bool) → b ≡ nat_le (length actors) i → a ≡ f (i + 1)
        by_place true t =
            let within : i < length (actors ++ new ∷ []) = slice_get_within (actors ++ new ∷ []) i a got in
            let count = length-append actors (new ∷ []) in
            let same : i ≡ length actors = (let high : length actors ≤ i = grind (arith, nat_tests) in omega (arith, within, count, high)) in
            let last : slice_get (actors ++ new ∷ []) (length actors) ≡ Some new = get_last actors new in
            let both : Some a ≡ Some new = sym got ∙ ap (slice_get (actors ++ new ∷ [])) same ∙ last in
            let one : a ≡ new = cc in
            one ∙ is ∙ ap (λ (n : ℕ). f (n + 1)) (sym (same ∙ are.0))
        by_place false t = are.1 i a (sym (get_left actors (new ∷ []) i (grind (arith, nat_tests))) ∙ got)

-- actors are those of another function that gives the same
pub actors_same : {A : Type 0} (f g : ℕ → A) (many : ℕ) (actors : List A) → ((n : ℕ) → f n ≡ g n) → AreActors f many actors → AreActors g many actors
actors_same f g many actors same are = (are.0, λ i a got. are.1 i a got ∙ same (i + 1))
