-- The totals of tasks.
use Rattle.std.proofs.Common.{◌≡◌, ◌∙◌, ◌≢◌, ℕ, ◌+◌, ◌-◌, ◌<◌, ◌≤◌, inl, inr, Bool, true, false, List, [], ◌∷◌, length, get_or, set, take, refl, sym, arith, get_or-set_same, get_or-set_other}
use Rattle.std.specs.Prelude.{◌==◌, if◌then◌else◌, map, filter, sum, sum_by}
use Rattle.std.proofs.lemmas.Bool.Decides.{nat_tests}
use Rattle.std.proofs.lemmas.Bool.{cases_lt}
use Rattle.std.proofs.lemmas.List.{ext_get_or}
use Rattle.std.proofs.lemmas.List.Elements.{filter_more}
use Rattle.std.proofs.lemmas.List.Sums.{sum_by-append, sum_by-cons, sum_by-set}
use Rattle.std.proofs.lemmas.List.FromFn.{length-map-range_with_len, get_or-map-range_with_len}
use Rattle.assignment.specs.declared.task.TheConstants.{TASKS}
use Rattle.assignment.specs.Owners.{tasks}
use Rattle.load_ledger.specs.Shares.{Share, share_total}
use Rattle.load_ledger.specs.Books.{book_of, book_with, shares_total, task_total, weight_of}

-- a total for each task, made by a function of its number
pub total_of : (f : ℕ → ℕ) (task : ℕ) → 1 ≤ task → task ≤ TASKS → task_total (map f tasks) task ≡ f task
unfolding tasks
total_of f task low high = get_or-map-range_with_len f 1 64 (task - 1) task 0 (omega arith) (omega arith)

pub totals_are : (f : ℕ → ℕ) (book : List ℕ) → length book ≡ 64 → ((task : ℕ) → 1 ≤ task → task ≤ 64 → task_total book task ≡ f task) → book ≡ map f tasks
unfolding tasks
totals_are f book each are =
    ext_get_or 0 book (map f tasks) (each ∙ sym (length-map-range_with_len f 1 64))
    (λ i l. let less : i + 1 - 1 ≡ i = omega arith in rw less at (are (i + 1) (omega arith) (omega arith)) ∙ sym (get_or-map-range_with_len f 1 64 i (i + 1) 0 (omega arith) (omega arith)))

weight_of_one : (b : Bool) (share : Share) → shares_total (if b then share ∷ [] else []) ≡ (if b then share_total share else 0)
weight_of_one true share = omega arith
weight_of_one false share = refl

-- the weights of the shares of a task, one share further
weight_more : (task : ℕ) (shares : List Share) (i : ℕ) (share : Share) → i < length shares → share ≡ get_or shares i share → weight_of task (take (i + 1) shares) ≡ weight_of task (take i shares) + (if share.task == task then share_total share else 0)
unfolding weight_of
weight_more task shares i share here is =
    let test : Share → Bool = λ s. s.task == task in
    rw (filter_more test shares i share here, ← is, sum_by-append share_total (filter test (take i shares)) (if test share then share ∷ [] else []), weight_of_one (test share) share) refl

-- the totals, one share further
pub totals_on : (book totals : List ℕ) (shares : List Share) (i : ℕ) (share : Share) (n : ℕ) → i < length shares → share ≡ get_or shares i share → n ≡ share.task → 1 ≤ n → n ≤ length totals
    → ((task : ℕ) → 1 ≤ task → task ≤ 64 → task_total totals task ≡ task_total book task + weight_of task (take i shares))
    → (task : ℕ) → 1 ≤ task → task ≤ 64 → task_total (set totals (n - 1) (get_or totals (n - 1) 0 + share_total share)) task ≡ task_total book task + weight_of task (take (i + 1) shares)
totals_on book totals shares i share n here is number low high so_far task l h = elim (cases_lt task n) [
  | inl below ↦
      let other : task - 1 ≢ n - 1 = λ e. absurd (omega arith) in
      let no : (share.task == task) ≡ false = grind (arith, nat_tests) in
      rw (weight_more task shares i share here is, no, get_or-set_other totals (n - 1) (task - 1) (get_or totals (n - 1) 0 + share_total share) 0 other) (let e = so_far task l h in omega arith)
  | inr not_below ↦ elim (cases_lt n task) [
    | inl above ↦
        let other : task - 1 ≢ n - 1 = λ e. absurd (omega arith) in
        let no : (share.task == task) ≡ false = grind (arith, nat_tests) in
        rw (weight_more task shares i share here is, no, get_or-set_other totals (n - 1) (task - 1) (get_or totals (n - 1) 0 + share_total share) 0 other) (let e = so_far task l h in omega arith)
    | inr same ↦
        let its : task ≡ n = omega arith in
        let yes : (share.task == n) ≡ true = grind (arith, nat_tests) in
        let e : task_total totals n ≡ task_total book n + weight_of n (take i shares) = so_far n low (omega arith) in
        rw (its, weight_more n shares i share here is, yes, get_or-set_same totals (n - 1) (get_or totals (n - 1) 0 + share_total share) 0 (omega arith)) (omega arith)
  ]
]

-- the sum of all totals, one share further
pub sum_on : (totals : List ℕ) (i weight sum_before : ℕ) → i < length totals → sum totals ≡ sum_before → sum (set totals i (get_or totals i 0 + weight)) ≡ sum_before + weight
sum_on totals i weight sum_before within is = let e = sum_by-set (λ (n : ℕ). n) totals i (get_or totals i 0 + weight) 0 within in omega (arith, e)

-- a book after a gather more
pub gathered_more : (shares : List Share) (gathers : List (List Share)) → book_with shares (book_of gathers) ≡ book_of (shares ∷ gathers)
unfolding tasks
gathered_more shares gathers =
    let before : ℕ → ℕ = λ task. sum_by (weight_of task) gathers in
    let now : ℕ → ℕ = λ task. task_total (book_of gathers) task + weight_of task shares in
    totals_are (λ task. sum_by (weight_of task) (shares ∷ gathers)) (book_with shares (book_of gathers)) (length-map-range_with_len now 1 64)
    (λ task low high. rw (total_of now task low high, total_of before task low high, sum_by-cons (weight_of task) shares gathers) (omega arith))
