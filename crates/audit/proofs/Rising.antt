-- Lists that rise, and tickets that stand twice.
use Rattle.std.proofs.Common.{◌≡◌, ◌≢◌, inl, inr, subst, ℕ, zero, suc, ◌+◌, ◌-◌, ◌<◌, ◌≤◌, ◌==◌, cond, Bool, true, false, List, [], ◌∷◌, map, length, get_or, sym, refl, ap, ◌∙◌, ⊎_elim, arith}
use Rattle.std.specs.List.{count_by, AllAdjacentBelow}
use Rattle.std.specs.List.Sorted.{IsNonDecreasingBy}
use Rattle.std.proofs.lemmas.List.{get_or_default, length-map, get_or-map}
use Rattle.std.proofs.lemmas.List.Sums.{sum_by-cons}
use Rattle.std.proofs.lemmas.List.Sorted.{all_adjacent_more}
use Rattle.std.proofs.lemmas.Bool.Decides.{eqb_tells}
use Rattle.audit.specs.OneRun.{Rises}

module _ {X : Type 0} (n : X → ℕ) where
  module _ (xs : List X) (i : ℕ) (x y : X) (one : 1 ≤ i) (low : i < length xs) (before : x ≡ get_or xs (i - 1) x) (here : y ≡ get_or xs i y) where
    next : i - 1 + 1 ≡ i
    next = omega arith

    first : (d : X) → n (get_or xs (i - 1) d) ≡ n x
    first d = ap n (get_or_default xs (i - 1) d x (omega arith) ∙ sym before)

    second : (d : X) → n (get_or xs (i - 1 + 1) d) ≡ n y
    second d = ap (λ (j : ℕ). n (get_or xs j d)) next ∙ ap n (get_or_default xs i d y low ∙ sym here)

    pub twice_at : n y ≡ n x → (k : ℕ) × (k + 1 < length xs) × ((d : X) → (n (get_or xs k d) ≡ n y) × (n (get_or xs (k + 1) d) ≡ n y))
    twice_at same = (i - 1, omega arith, λ d. (first d ∙ sym same, second d))

    pub falls_at : n y ≤ n x → (k : ℕ) × (k + 1 < length xs) × ((d : X) → n (get_or xs (k + 1) d) ≡ n y) × ((d : X) → n y ≤ n (get_or xs k d))
    falls_at below = (i - 1, omega arith, second, λ d. let h = first d in omega (arith, h, below))

    pub rises_more : AllAdjacentBelow (λ x y. n x < n y) xs i → n x < n y → AllAdjacentBelow (λ x y. n x < n y) xs (i + 1)
    rises_more so_far up =
        all_adjacent_more xs (λ x y. n x < n y) i one so_far
        (λ d. let a = first d in let b = ap n (get_or_default xs i d y low ∙ sym here) in omega (arith, a, b, up))

    pub rises_on : IsNonDecreasingBy n xs → AllAdjacentBelow (λ x y. n x < n y) xs i → n y ≢ n x → AllAdjacentBelow (λ x y. n x < n y) xs (i + 1)
    rises_on up so_far other =
        rises_more so_far (let h = up (i - 1) i x (omega arith) low in let a = first x in let b = ap n (get_or_default xs i x y low ∙ sym here) in omega (arith, h, a, b, other))

  test : (x : X) (t : ℕ) → n x ≡ t → (n x == t) ≡ true
  test x t is = ⊎_elim (λ u. u.0) (λ u. absurd (u.1 is)) (eqb_tells (n x) t)

  counts_here : (xs : List X) (k : ℕ) (d : X) (t : ℕ) → k < length xs → n (get_or xs k d) ≡ t → 1 ≤ count_by (λ x. n x == t) xs
  counts_here [] k d t low is = absurd (omega arith)
  counts_here (x ∷ xs) zero d t low is = let e = test x t is in omega (arith, sum_by-cons (λ y. cond (n y == t) 1 0) x xs, ap {B = ℕ} (λ b. cond b 1 0) e)
  counts_here (x ∷ xs) (suc k) d t low is = let r = counts_here xs k d t (omega arith) is in omega (arith, r, sum_by-cons (λ y. cond (n y == t) 1 0) x xs)

  pub counts_twice : (xs : List X) (k : ℕ) (d : X) (t : ℕ) → suc k < length xs → n (get_or xs k d) ≡ t → n (get_or xs (suc k) d) ≡ t → 2 ≤ count_by (λ x. n x == t) xs
  counts_twice [] k d t low is too = absurd (omega arith)
  counts_twice (x ∷ xs) zero d t low is too =
      let e = test x t is in let r = counts_here xs 0 d t (omega arith) too in omega (arith, r, sum_by-cons (λ y. cond (n y == t) 1 0) x xs, ap {B = ℕ} (λ b. cond b 1 0) e)
  counts_twice (x ∷ xs) (suc k) d t low is too = let r = counts_twice xs k d t (omega arith) is too in omega (arith, r, sum_by-cons (λ y. cond (n y == t) 1 0) x xs)

  pub rises_map : {Z : Type 0} (f : Z → X) (xs : List Z) → Rises (λ z. n (f z)) xs → Rises n (map f xs)
  rises_map f [] up k d low = absurd (omega arith)
  rises_map f (x ∷ xs) up k d low =
      let short : k + 1 < length (x ∷ xs) = omega (arith, low, length-map (x ∷ xs) f) in
      let a = ap n (get_or-map f (x ∷ xs) k x d (omega arith)) in let b = ap n (get_or-map f (x ∷ xs) (k + 1) x d short) in omega (arith, a, b, up k x short)

count_map : {X Z : Type 0} (p : X → Bool) (f : Z → X) (xs : List Z) → count_by p (map f xs) ≡ count_by (λ z. p (f z)) xs
count_map p f [] = refl
count_map p f (x ∷ xs) = let r = count_map p f xs in omega (arith, r, sum_by-cons (λ y. cond (p y) 1 0) (f x) (map f xs), sum_by-cons (λ z. cond (p (f z)) 1 0) x xs)

pub doubled : {X Z : Type 0} (n : X → ℕ) (f : Z → X) (xs : List Z) (k t : ℕ) → k + 1 < length xs → ((d : Z) → (n (f (get_or xs k d)) ≡ t) × (n (f (get_or xs (k + 1) d)) ≡ t)) → 2 ≤ count_by (λ x. n x == t) (map f xs)
doubled n f [] k t low at = absurd (omega arith)
doubled n f (x ∷ xs) k t low at =
    let next : suc k ≡ k + 1 = omega arith in let too : n (f (get_or (x ∷ xs) (suc k) x)) ≡ t = ap (λ j. n (f (get_or (x ∷ xs) j x))) next ∙ (at x).1 in
    let r = counts_twice (λ z. n (f z)) (x ∷ xs) k x t (omega arith) (at x).0 too in omega (arith, r, count_map (λ y. n y == t) f (x ∷ xs))

-- NO NUMBER STANDS TWICE WHERE THEY RISE

module _ {X : Type 0} (n : X → ℕ) where
  rises_rest : (x : X) (xs : List X) → Rises n (x ∷ xs) → Rises n xs
  rises_rest x xs up k d low =
      let next : suc k + 1 ≡ suc (k + 1) = omega arith in
      subst (λ (j : ℕ). n (get_or xs k d) < n (get_or (x ∷ xs) j d)) next (up (suc k) d (omega (arith, low)))

  none_after : (t : ℕ) (x : X) (xs : List X) → t ≤ n x → Rises n (x ∷ xs) → count_by (λ y. n y == t) xs ≡ 0
  none_after t x [] low up = refl
  none_after t x (y ∷ ys) low up =
      let next : n x < n y = up 0 x (omega arith) in
      let other : (n y == t) ≡ false = ⊎_elim (λ u. absurd (let same = u.1 in omega (arith, low, next, same))) (λ u. u.0) (eqb_tells (n y) t) in
      let rest = none_after t y ys (omega (arith, low, next)) (rises_rest x (y ∷ ys) up) in
      omega (arith, rest, sum_by-cons (λ z. cond (n z == t) 1 0) y ys, ap {B = ℕ} (λ b. cond b 1 0) other)

  pub at_most_once : (t : ℕ) (xs : List X) → Rises n xs → count_by (λ x. n x == t) xs ≤ 1
  at_most_once t [] up = omega arith
  at_most_once t (x ∷ xs) up = elim (eqb_tells (n x) t) [
    | inl is ↦ (let same = is.1 in let none = none_after t x xs (omega (arith, same)) up in
        omega (arith, none, sum_by-cons (λ y. cond (n y == t) 1 0) x xs, ap {B = ℕ} (λ b. cond b 1 0) is.0))
    | inr not ↦ (let rest = at_most_once t xs (rises_rest x xs up) in
        omega (arith, rest, sum_by-cons (λ y. cond (n y == t) 1 0) x xs, ap {B = ℕ} (λ b. cond b 1 0) not.0))
  ]
