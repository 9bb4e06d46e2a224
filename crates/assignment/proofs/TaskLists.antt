-- Lists of tasks that rise, and the tasks that pass a test.
use Rattle.std.proofs.Common.{◌≡◌, ◌∙◌, ℕ, zero, suc, ◌+◌, ◌≤◌, Bool, true, false, List, [], ◌∷◌, refl, sym, subst, arith}
use Rattle.std.specs.Prelude.{◌==◌, ◌||◌, ◌&&◌, nat_le, nat_lt, filter}
use Rattle.std.specs.List.{range_with_len}
use Rattle.std.specs.List.Sorted.{IsStrictlySortedBy, IsStrictlyIncreasing}
use Rattle.std.specs.Ordering.{nat_cmp}
use Rattle.std.specs.declared.cmp.Ordering.TheVariants.{Less}
use Rattle.std.proofs.lemmas.Bool.Decides.{nat_tests}
use Rattle.std.proofs.lemmas.Map.Keys.{IsStrictlyIncreasing-from_sorted}
use Rattle.slice_ranges.specs.Sets.{Rises}
use Rattle.machines.proofs.Every.{all_weaker}
use Rattle.assignment.specs.Slices.{is_among, is_task, has_twice}
use Rattle.assignment.specs.Owners.{tasks}
use Rattle.assignment.proofs.Rising.{low_from, none_among}

rises_lower : (low low' high : ℕ) (xs : List ℕ) → low' ≤ low → Rises low xs high → Rises low' xs high
rises_lower low low' high [] l h = let p : low ≤ high = h in omega arith
rises_lower low low' high (x ∷ xs) l h = (let p : low ≤ x = h.0 in omega arith, h.1)

-- what is left of a rising list rises
pub rises_filter : (test : ℕ → Bool) (low high : ℕ) (xs : List ℕ) → Rises low xs high → Rises low (filter test xs) high
rises_filter test low high [] h = h
rises_filter test low high (x ∷ xs) h = by_test (test x) refl (rises_filter test (x + 1) high xs h.1)
  where
    by_test : (b : Bool) → b ≡ test x → Rises (x + 1) (filter test xs) high → Rises low (filter test (x ∷ xs)) high
    by_test true e rest = rw (← e) (h.0, rest)
    by_test false e rest = rw (← e) (rises_lower (x + 1) low high (filter test xs) (let p : low ≤ x = h.0 in omega arith) rest)

range_rises : (low n : ℕ) → Rises low (range_with_len low n) (low + n)
range_rises low zero = omega arith
range_rises low (suc n) = (omega arith, (let P : ℕ → Type 0 = λ high. Rises (low + 1) (range_with_len (low + 1) n) high in let e : low + 1 + n ≡ low + suc n = omega arith in subst P e (range_rises (low + 1) n)))

-- the tasks that pass a test rise
pub tasks_rise : (test : ℕ → Bool) → Rises 1 (filter test tasks) 65
unfolding tasks
tasks_rise test = rises_filter test 1 65 (range_with_len 1 64) (range_rises 1 64)

-- a task is left where it was there and passes the test
pub among-filter : (test : ℕ → Bool) (xs : List ℕ) (t : ℕ) → is_among (filter test xs) t ≡ (is_among xs t && test t)
among-filter test [] t = refl
among-filter test (x ∷ xs) t = by_tests (test x) (x == t) refl refl (among-filter test xs t)
  where
    by_tests : (b same : Bool) → b ≡ test x → same ≡ (x == t) → is_among (filter test xs) t ≡ (is_among xs t && test t) → is_among (filter test (x ∷ xs)) t ≡ ((x == t || is_among xs t) && test t)
    by_tests true true e f rest =
        let is : x ≡ t = grind (arith, nat_tests) in
        let passes : test t ≡ true = let P : ℕ → Type 0 = λ y. test y ≡ true in subst P is (sym e) in
        rw (← e, ← f, passes) refl
    by_tests true false e f rest = rw (← e, ← f) rest
    by_tests false true e f rest =
        let is : x ≡ t = grind (arith, nat_tests) in
        let fails : test t ≡ false = let P : ℕ → Type 0 = λ y. test y ≡ false in subst P is (sym e) in
        rw (← e, ← f, fails) (rest ∙ rw (fails, and_false (is_among xs t)) refl)
      where
        and_false : (b : Bool) → (b && false) ≡ false
        and_false true = refl
        and_false false = refl
    by_tests false false e f rest = rw (← e, ← f) rest

among-range : (low n t : ℕ) → is_among (range_with_len low n) t ≡ (nat_le low t && nat_lt t (low + n))
among-range low zero t = grind (arith, nat_tests)
among-range low (suc n) t = let rest = among-range (low + 1) n t in rw rest (grind (arith, nat_tests))

pub among-tasks : (t : ℕ) → is_among tasks t ≡ is_task t
unfolding tasks
among-tasks t = among-range 1 64 t ∙ grind (arith, nat_tests)

-- no task stands twice in a rising list
pub not_twice : (low high : ℕ) (xs : List ℕ) → Rises low xs high → has_twice xs ≡ false
not_twice low high [] h = refl
not_twice low high (x ∷ xs) h = rw (none_among (x + 1) high x xs h.1 (omega arith)) (not_twice (x + 1) high xs h.1)

rises_sorted : (low high : ℕ) (xs : List ℕ) → Rises low xs high → IsStrictlySortedBy nat_cmp xs
unfolding IsStrictlySortedBy
rises_sorted low high [] h = tt
rises_sorted low high (x ∷ xs) h =
    (all_weaker (λ y. x + 1 ≤ y) (λ y. nat_cmp x y ≡ Less) xs (λ y l. grind (arith, nat_tests)) (low_from (x + 1) (x + 1) high xs (omega arith) h.1), rises_sorted (x + 1) high xs h.1)

pub rises_increasing : (low high : ℕ) (xs : List ℕ) → Rises low xs high → IsStrictlyIncreasing xs
rises_increasing low high xs h = IsStrictlyIncreasing-from_sorted xs (rises_sorted low high xs h)
