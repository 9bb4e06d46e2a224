-- Totals over a list of which one element changes, and how often a number stands in a list.
use Rattle.std.proofs.Common.{cond, ⊎_elim, true, ◌≡◌, ℕ, zero, suc, ◌+◌, ◌<◌, ◌≤◌, ◌==◌, List, [], ◌∷◌, length, get_or, set, sym, refl, ap, arith}
use Rattle.std.specs.List.{sum_by}
use Rattle.std.proofs.lemmas.List.Sums.{sum_by-cons}
use Rattle.std.proofs.lemmas.Bool.Decides.{nat_tests, eqb_tells}
use mathlib.Core.Option.{some, some-injective, some-ne-none}
use lib.ListN.{get_elem?}
use Rattle.tickets.specs.Tickets.{times, once_below}

module _ {A : Type 0} (f : A → ℕ) where
  pub sum_set : (l : List A) (i : ℕ) (v w : A) → get_elem? l i ≡ some v → sum_by f (set l i w) + f v ≡ sum_by f l + f w
  sum_set [] i v w e = absurd (some-ne-none v (sym e))
  sum_set (x ∷ xs) zero v w e = let h : f x ≡ f v = ap f (some-injective x v e) in omega (arith, sum_by-cons f x xs, sum_by-cons f w xs)
  sum_set (x ∷ xs) (suc i) v w e = let h = sum_set xs i v w e in omega (arith, h, sum_by-cons f x xs, sum_by-cons f x (set xs i w))

  pub sum_get : (l : List A) (i : ℕ) (v : A) → get_elem? l i ≡ some v → f v ≤ sum_by f l
  sum_get [] i v e = absurd (some-ne-none v (sym e))
  sum_get (x ∷ xs) zero v e = let h : f x ≡ f v = ap f (some-injective x v e) in omega (arith, sum_by-cons f x xs)
  sum_get (x ∷ xs) (suc i) v e = let h = sum_get xs i v e in omega (arith, h, sum_by-cons f x xs)

  pub sum_zero : (l : List A) → ((i : ℕ) (v : A) → get_elem? l i ≡ some v → f v ≡ 0) → sum_by f l ≡ 0
  sum_zero [] h = refl
  sum_zero (x ∷ xs) h = let a = h 0 x refl in let b = sum_zero xs (λ i v e. h (suc i) v e) in omega (arith, a, b, sum_by-cons f x xs)

same_number : (x : ℕ) → (x == x) ≡ true
same_number x = ⊎_elim (λ t. t.0) (λ t. absurd (t.1 refl)) (eqb_tells x x)

pub times_here : (xs : List ℕ) (k d : ℕ) → k < length xs → 1 ≤ times (get_or xs k d) xs
times_here [] k d h = absurd (omega arith)
times_here (x ∷ xs) zero d h = let e = same_number x in omega (arith, sum_by-cons (λ y. cond (y == x) 1 0) x xs, ap {B = ℕ} (λ b. cond b 1 0) e)
times_here (x ∷ xs) (suc k) d h = let r = times_here xs k d (omega arith) in let v = get_or xs k d in omega (arith, r, sum_by-cons (λ y. cond (y == v) 1 0) x xs)

pub once_step : (x n : ℕ) → once_below x n + times x (n ∷ []) ≡ once_below x (n + 1)
once_step x n = grind (arith, nat_tests)

pub once_is_below : (x n : ℕ) → 1 ≤ once_below x n → x < n
once_is_below x n h = grind (arith, nat_tests)
