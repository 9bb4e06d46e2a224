-- One owner less, and one owner more.
use Rattle.std.proofs.Common.{◌≡◌, ◌∙◌, ℕ, zero, suc, ◌+◌, ◌-◌, ◌<◌, ◌≤◌, inl, inr, ◌⊎◌, Bool, true, false, List, [], ◌∷◌, ◌++◌, length, get_or, set, take, drop, Option, Some, None, refl, sym, ap, subst, arith, add-one}
use Rattle.std.specs.Prelude.{◌==◌, ◌&&◌, not, nat_le, fold, sum_by, if◌then◌else◌}
use Rattle.std.proofs.lemmas.Bool.{or_right}
use Rattle.std.proofs.lemmas.Bool.Decides.{nat_tests}
use Rattle.std.proofs.lemmas.List.Sums.{sum_by-append, sum_by-cons, sum_by-set}
use Rattle.std.proofs.lemmas.List.{take-append-drop, drop_more, set_split, take_more_set, drop-set-lt}
use Rattle.assignment.specs.Slices.{is_among}
use Rattle.weighted_move.specs.declared.redundancy.Redundancy.{Redundancy}
use Rattle.weighted_move.specs.declared.loaded_slice.LoadedSlice.{LoadedSlice}
use Rattle.weighted_move.specs.Loads.{added_to, load_of, total_load}
use Rattle.weighted_move.specs.Fitting.{heavier, lighter, most_loaded, least_loaded, strangers, without_owner, with_owner, less_one, plus_one, slice_after_losses, slice_after_gains, fitted_slice, fitted_slices_from}
use Rattle.assignment.proofs.TaskLists.{among-filter}
use Rattle.weighted_move.proofs.TaskLists.{no_longer}

-- the task of the least load is one of them
lightest_of : (load : ℕ → ℕ) (known : Option ℕ) (x t : ℕ) → lighter load known x ≡ t → (known ≡ Some t) ⊎ (x ≡ t)
lightest_of load None x t e = inr e
lightest_of load (Some known) x t e = by_test (nat_le (load known) (load x)) refl e
  where
    by_test : (b : Bool) → b ≡ nat_le (load known) (load x) → (if b then known else x) ≡ t → (Some known ≡ Some t) ⊎ (x ≡ t)
    by_test true f e = inl (ap (λ (y : ℕ). Some y) e)
    by_test false f e = inr e

pub least_in : (load : ℕ → ℕ) (known : Option ℕ) (xs : List ℕ) (t : ℕ) → fold (λ known task. Some (lighter load known task)) known xs ≡ Some t → (known ≡ Some t) ⊎ (is_among xs t ≡ true)
least_in load known [] t e = inl e
least_in load known (x ∷ xs) t e = elim (least_in load (Some (lighter load known x)) xs t e) [
  | inl f ↦ elim (lightest_of load known x t (let g : lighter load known x ≡ t = cc in g)) [
    | inl g ↦ inl g
    | inr g ↦ inr (let itself : (x == t) ≡ true = grind (arith, nat_tests) in rw itself refl)
  ]
  | inr f ↦ inr (rw f (or_right (x == t) true refl))
]

pub least_stranger : (load : ℕ → ℕ) (tasks owners : List ℕ) (t : ℕ) → least_loaded load (strangers tasks owners) ≡ Some t → is_among owners t ≡ false
least_stranger load tasks owners t e = elim (least_in load None (strangers tasks owners) t e) [
  | inl f ↦ absurd (cc)
  | inr f ↦ from_test (is_among tasks t) (is_among owners t) (sym (among-filter (λ x. not (is_among owners x)) tasks t) ∙ f)
]
  where
    from_test : (a b : Bool) → (a && not b) ≡ true → b ≡ false
    from_test true true e = absurd (cc)
    from_test true false e = refl
    from_test false b e = absurd (cc)

-- tasks of the same loads compare alike
most_same : (f g : ℕ → ℕ) (known : Option ℕ) (xs : List ℕ) → ((t : ℕ) → f t ≡ g t) → fold (λ known task. Some (heavier f known task)) known xs ≡ fold (λ known task. Some (heavier g known task)) known xs
most_same f g known [] same = refl
most_same f g known (x ∷ xs) same = most_same f g (Some (heavier f known x)) xs same ∙ ap (λ (k : ℕ). fold (λ known task. Some (heavier g known task)) (Some k) xs) (one known)
  where
    one : (known : Option ℕ) → heavier f known x ≡ heavier g known x
    one None = refl
    one (Some k) = rw (same x, same k) refl

least_same : (f g : ℕ → ℕ) (known : Option ℕ) (xs : List ℕ) → ((t : ℕ) → f t ≡ g t) → fold (λ known task. Some (lighter f known task)) known xs ≡ fold (λ known task. Some (lighter g known task)) known xs
least_same f g known [] same = refl
least_same f g known (x ∷ xs) same = least_same f g (Some (lighter f known x)) xs same ∙ ap (λ (k : ℕ). fold (λ known task. Some (lighter g known task)) (Some k) xs) (one known)
  where
    one : (known : Option ℕ) → lighter f known x ≡ lighter g known x
    one None = refl
    one (Some k) = rw (same x, same k) refl

pub less_one-same : (f g : ℕ → ℕ) (slice : LoadedSlice) → ((t : ℕ) → f t ≡ g t) → less_one f slice ≡ less_one g slice
unfolding less_one
less_one-same f g slice same = ap (λ (o : Option ℕ). without_owner o slice) (most_same f g None slice.owners same)

pub plus_one-same : (f g : ℕ → ℕ) (tasks : List ℕ) (slice : LoadedSlice) → ((t : ℕ) → f t ≡ g t) → plus_one f tasks slice ≡ plus_one g tasks slice
unfolding plus_one
plus_one-same f g tasks slice same = ap (λ (o : Option ℕ). with_owner o slice) (least_same f g None (strangers tasks slice.owners) same)

-- what neither changes
without-load : (o : Option ℕ) (slice : LoadedSlice) → (without_owner o slice).load ≡ slice.load
without-load None slice = refl
without-load (Some t) slice = refl

with-load : (o : Option ℕ) (slice : LoadedSlice) → (with_owner o slice).load ≡ slice.load
with-load None slice = refl
with-load (Some t) slice = refl

pub less_one-load : (f : ℕ → ℕ) (slice : LoadedSlice) → (less_one f slice).load ≡ slice.load
unfolding less_one
less_one-load f slice = without-load (most_loaded f slice.owners) slice

pub plus_one-load : (f : ℕ → ℕ) (tasks : List ℕ) (slice : LoadedSlice) → (plus_one f tasks slice).load ≡ slice.load
unfolding plus_one
plus_one-load f tasks slice = with-load (least_loaded f (strangers tasks slice.owners)) slice

without-few : (o : Option ℕ) (slice : LoadedSlice) → length (without_owner o slice).owners ≤ length slice.owners
without-few None slice = omega arith
without-few (Some t) slice = no_longer t slice.owners

pub less_one-few : (f : ℕ → ℕ) (slice : LoadedSlice) → length (less_one f slice).owners ≤ length slice.owners
unfolding less_one
less_one-few f slice = without-few (most_loaded f slice.owners) slice

-- the load of a task by a list, part by part
pub load-parts : (before after : List LoadedSlice) (slice : LoadedSlice) (task : ℕ) → load_of (before ++ slice ∷ after) task ≡ load_of before task + (added_to task slice + load_of after task)
unfolding load_of
load-parts before after slice task = sum_by-append (added_to task) before (slice ∷ after) ∙ ap (λ n. sum_by (added_to task) before + n) (sum_by-cons (added_to task) slice after)

-- the loads stand by a list where one slice is another
pub stands_on : (before after : List LoadedSlice) (old new : LoadedSlice) (task load load' : ℕ) → load ≡ load_of (before ++ old ∷ after) task → load' + added_to task old ≡ load + added_to task new → load' ≡ load_of (before ++ new ∷ after) task
stands_on before after old new task load load' stands change =
    omega (arith, load-parts before after old task, load-parts before after new task, stands, change)

-- one turn of each loop
pub prune_step : (count left : ℕ) (before after : List LoadedSlice) (slice new : LoadedSlice) (load : ℕ → ℕ) → count ≡ suc left → new ≡ less_one load slice → ((t : ℕ) → load t ≡ load_of (before ++ slice ∷ after) t)
    → slice_after_losses count before slice after ≡ slice_after_losses left before new after
prune_step count left before after slice new load one is stands =
    let same : less_one (load_of (before ++ slice ∷ after)) slice ≡ new = sym (is ∙ less_one-same load (load_of (before ++ slice ∷ after)) slice stands) in
    rw one (ap (λ (s : LoadedSlice). slice_after_losses left before s after) same)

pub fill_step : (tasks : List ℕ) (count left : ℕ) (before after : List LoadedSlice) (slice new : LoadedSlice) (load : ℕ → ℕ) → count ≡ suc left → new ≡ plus_one load tasks slice → ((t : ℕ) → load t ≡ load_of (before ++ slice ∷ after) t)
    → slice_after_gains tasks count before slice after ≡ slice_after_gains tasks left before new after
fill_step tasks count left before after slice new load one is stands =
    let same : plus_one (load_of (before ++ slice ∷ after)) tasks slice ≡ new = sym (is ∙ plus_one-same load (load_of (before ++ slice ∷ after)) tasks slice stands) in
    rw one (ap (λ (s : LoadedSlice). slice_after_gains tasks left before s after) same)

-- after both loops
pub fit_end : (tasks : List ℕ) (redundancy : Redundancy) (len turn turn' : ℕ) (before after : List LoadedSlice) (slice pruned_one filled_one : LoadedSlice) → len ≡ length slice.owners
    → slice_after_losses (len - redundancy.high) before slice after ≡ slice_after_losses (len - turn) before pruned_one after → len ≤ turn
    → slice_after_gains tasks (redundancy.low - len) before pruned_one after ≡ slice_after_gains tasks (redundancy.low - turn') before filled_one after → redundancy.low ≤ turn'
    → filled_one ≡ fitted_slice tasks redundancy before slice after
fit_end tasks redundancy len turn turn' before after slice pruned_one filled_one is prunes done fills done' =
    let none : len - turn ≡ 0 = omega arith in
    let none' : redundancy.low - turn' ≡ 0 = omega arith in
    let first : slice_after_losses (len - redundancy.high) before slice after ≡ pruned_one = prunes ∙ rw none refl in
    let second : slice_after_gains tasks (redundancy.low - len) before pruned_one after ≡ filled_one = fills ∙ rw none' refl in
    let whole : filled_one ≡ slice_after_gains tasks (redundancy.low - len) before (slice_after_losses (len - redundancy.high) before slice after) after = sym (ap (λ (s : LoadedSlice). slice_after_gains tasks (redundancy.low - len) before s after) first ∙ second) in
    let P : ℕ → Type 0 = λ n. filled_one ≡ slice_after_gains tasks (redundancy.low - n) before (slice_after_losses (n - redundancy.high) before slice after) after in
    subst P is whole

pruned-load : (count : ℕ) (before after : List LoadedSlice) (slice : LoadedSlice) → (slice_after_losses count before slice after).load ≡ slice.load
pruned-load zero before after slice = refl
pruned-load (suc count) before after slice = let load = load_of (before ++ slice ∷ after) in pruned-load count before after (less_one load slice) ∙ less_one-load load slice

filled-load : (tasks : List ℕ) (count : ℕ) (before after : List LoadedSlice) (slice : LoadedSlice) → (slice_after_gains tasks count before slice after).load ≡ slice.load
filled-load tasks zero before after slice = refl
filled-load tasks (suc count) before after slice = let load = load_of (before ++ slice ∷ after) in filled-load tasks count before after (plus_one load tasks slice) ∙ plus_one-load load tasks slice

fitted-load : (tasks : List ℕ) (redundancy : Redundancy) (before after : List LoadedSlice) (slice : LoadedSlice) → (fitted_slice tasks redundancy before slice after).load ≡ slice.load
fitted-load tasks redundancy before after slice =
    filled-load tasks (redundancy.low - length slice.owners) before after (slice_after_losses (length slice.owners - redundancy.high) before slice after) ∙ pruned-load (length slice.owners - redundancy.high) before after slice

-- a list, cut at a place
pub cut_at : (slices : List LoadedSlice) (i : ℕ) (d : LoadedSlice) → i < length slices → slices ≡ take i slices ++ get_or slices i d ∷ drop (i + 1) slices
cut_at slices i d l = sym (take-append-drop i slices) ∙ ap (λ (xs : List LoadedSlice). take i slices ++ xs) (drop_more slices i d l)

pub set_at : (slices : List LoadedSlice) (i : ℕ) (new : LoadedSlice) → i < length slices → set slices i new ≡ take i slices ++ new ∷ drop (i + 1) slices
set_at slices i new l = rw add-one (set_split slices i new l)

-- one slice more is fitted
pub fit_step : (tasks : List ℕ) (redundancy : Redundancy) (slices : List LoadedSlice) (i : ℕ) (d new : LoadedSlice) → i < length slices
    → new ≡ fitted_slice tasks redundancy (take i slices) (get_or slices i d) (drop (i + 1) slices)
    → fitted_slices_from tasks redundancy (take (i + 1) (set slices i new)) (drop (i + 1) (set slices i new)) ≡ fitted_slices_from tasks redundancy (take i slices) (drop i slices)
fit_step tasks redundancy slices i d new l is =
    let here : drop i slices ≡ get_or slices i d ∷ drop (i + 1) slices = drop_more slices i d l in
    let past : drop (i + 1) (set slices i new) ≡ drop (i + 1) slices = drop-set-lt (i + 1) slices i new (omega arith) in
    rw (take_more_set slices i new l, past, here, is) refl

pub fit_total : (tasks : List ℕ) (redundancy : Redundancy) (slices : List LoadedSlice) (i : ℕ) (d new : LoadedSlice) → i < length slices
    → new ≡ fitted_slice tasks redundancy (take i slices) (get_or slices i d) (drop (i + 1) slices) → total_load (set slices i new) ≡ total_load slices
fit_total tasks redundancy slices i d new l is =
    let sum = sum_by-set (λ (s : LoadedSlice). s.load) slices i new d l in
    let same = ap (λ (s : LoadedSlice). s.load) is ∙ fitted-load tasks redundancy (take i slices) (drop (i + 1) slices) (get_or slices i d) in
    omega (arith, sum, same)
