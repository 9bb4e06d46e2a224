-- Slices whose owners are in rising order.
use Rattle.std.proofs.Common.{◌≡◌, ◌∙◌, ℕ, zero, suc, ◌+◌, ◌<◌, ◌≤◌, inl, inr, Bool, true, false, List, [], ◌∷◌, length, get_or, refl, sym, ap, subst, arith}
use Rattle.std.specs.Prelude.{◌==◌, ◌||◌, ◌&&◌, nat_lt, nat_le, not, filter, All, Contains, ◌↔◌, Option, Some, None, if◌then◌else◌}
use Rattle.std.specs.Option.{option_map, option_map_or}
use Rattle.std.specs.List.{AllByRecursion, list_any, range_with_len}
use Rattle.std.specs.List.Sorted.{IsStrictlyIncreasing}
use Rattle.std.proofs.lemmas.Bool.{cases_lt}
use Rattle.std.proofs.lemmas.Bool.Decides.{nat_tests}
use Rattle.std.proofs.lemmas.List.{length-map}
use Rattle.std.proofs.lemmas.List.Elements.{recursion_from_All, filter_agree}
use Rattle.std.proofs.lemmas.List.Folds.{list_any_none}
use Rattle.machines.proofs.Every.{all_weaker}
use Rattle.slice_ranges.specs.Sets.{Rises}
use Rattle.assignment.specs.declared.slice.Slice.{Slice}
use Rattle.assignment.specs.declared.slice.TheConstants.{MOST_OWNERS}
use Rattle.assignment.specs.declared.task.TheConstants.{TASKS}
use Rattle.slice_ranges.specs.declared.key.TheConstants.{KEYS}
use Rattle.assignment.specs.Slices.{is_among, is_task, has_twice, is_rising, first_starts_at, refusal_of}
use Rattle.assignment.specs.Owners.{IsSliceOf, tasks, rising_owners, in_rising_order, with_rising_owners, built, HaveSameOwners, greater, slice_at, owns, owners_of}
use Rattle.assignment.proofs.Acceptance.{IsAccepted, acceptance}
use Rattle.assignment.proofs.Rising.{filter-range, from_low, below_high}
use Rattle.assignment.proofs.SliceOrder.{of_slice_at, slice_at_is, some_is}
use Rattle.assignment.proofs.TaskLists.{tasks_rise, among-filter, among-tasks, not_twice, rises_increasing}

pub owners_rise_between : (owners : List ℕ) → Rises 1 (rising_owners owners) 65
owners_rise_between owners = tasks_rise (is_among owners)

-- owners that rise stay as they are
pub rising_stay : (owners : List ℕ) → Rises 1 owners 65 → rising_owners owners ≡ owners
unfolding tasks
rising_stay owners rises = filter-range (is_among owners) TASKS 1 owners (λ t l. refl) rises

pub rising_twice : (owners : List ℕ) → rising_owners (rising_owners owners) ≡ rising_owners owners
rising_twice owners = rising_stay (rising_owners owners) (owners_rise_between owners)

-- a slice with one owner stays as it is
pub single_stays : (start owner : ℕ) → 1 ≤ owner → owner ≤ TASKS → in_rising_order (record { start = start; owners = owner ∷ [] }) ≡ record { start = start; owners = owner ∷ [] }
single_stays start owner low high = rw (rising_stay (owner ∷ []) (low, omega arith)) refl

no_stranger : (t : ℕ) (owners : List ℕ) → All (λ o. is_task o ≡ true) owners → is_task t ≡ false → is_among owners t ≡ false
no_stranger t owners known stranger = list_any_none (λ o. o == t) owners (λ k d l. differs (get_or owners k d) (known k d l))
  where
    differs : (o : ℕ) → is_task o ≡ true → (o == t) ≡ false
    differs o e = by_test (o == t) refl
      where
        by_test : (b : Bool) → b ≡ (o == t) → (o == t) ≡ false
        by_test false f = sym f
        by_test true f = let same : o ≡ t = grind (arith, nat_tests) in absurd (let task : is_task t ≡ true = subst (λ (x : ℕ). is_task x ≡ true) same e in cc)

-- the same tasks are among them
pub same_among : (owners : List ℕ) → All (λ o. is_task o ≡ true) owners → (t : ℕ) → is_among (rising_owners owners) t ≡ is_among owners t
same_among owners known t = among-filter (is_among owners) tasks t ∙ (ap (λ b. b && is_among owners t) (among-tasks t) ∙ by_test (is_task t) refl)
  where
    by_test : (b : Bool) → b ≡ is_task t → (b && is_among owners t) ≡ is_among owners t
    by_test true e = refl
    by_test false e = sym (no_stranger t owners known (sym e))

-- as many of a range are a task or pass a test, where the task is not in it
none_more : (test : ℕ → Bool) (x n low : ℕ) → x < low → length (filter (λ t. x == t || test t) (range_with_len low n)) ≡ length (filter test (range_with_len low n))
none_more test x zero low l = refl
none_more test x (suc n) low l =
    let other : (x == low) ≡ false = grind (arith, nat_tests) in
    rw other (by_test (test low) (none_more test x n (low + 1) (omega arith)))
  where
    by_test : (b : Bool) → length (filter (λ t. x == t || test t) (range_with_len (low + 1) n)) ≡ length (filter test (range_with_len (low + 1) n))
        → length (if b then low ∷ filter (λ t. x == t || test t) (range_with_len (low + 1) n) else filter (λ t. x == t || test t) (range_with_len (low + 1) n))
        ≡ length (if b then low ∷ filter test (range_with_len (low + 1) n) else filter test (range_with_len (low + 1) n))
    by_test true e = ap suc e
    by_test false e = e

-- and one more, where it is in it and does not pass the test
one_more : (test : ℕ → Bool) (x n low : ℕ) → test x ≡ false → low ≤ x → x < low + n
    → length (filter (λ t. x == t || test t) (range_with_len low n)) ≡ suc (length (filter test (range_with_len low n)))
one_more test x zero low fails l h = absurd (omega arith)
one_more test x (suc n) low fails l h = elim (cases_lt low x) [
  | inl later ↦
      let other : (x == low) ≡ false = grind (arith, nat_tests) in
      rw other (by_test (test low) (one_more test x n (low + 1) fails (omega arith) (omega arith)))
  | inr here ↦
      let is : x ≡ low = omega arith in
      let itself : (x == low) ≡ true = grind (arith, nat_tests) in
      let out : test low ≡ false = subst (λ (y : ℕ). test y ≡ false) is fails in
      rw (itself, out) (ap suc (none_more test x n (low + 1) (omega arith)))
]
  where
    by_test : (b : Bool) → length (filter (λ t. x == t || test t) (range_with_len (low + 1) n)) ≡ suc (length (filter test (range_with_len (low + 1) n)))
        → length (if b then low ∷ filter (λ t. x == t || test t) (range_with_len (low + 1) n) else filter (λ t. x == t || test t) (range_with_len (low + 1) n))
        ≡ suc (length (if b then low ∷ filter test (range_with_len (low + 1) n) else filter test (range_with_len (low + 1) n)))
    by_test true e = ap suc e
    by_test false e = e

one_more_task : (x : ℕ) (xs : List ℕ) → is_among xs x ≡ false → is_task x ≡ true → length (rising_owners (x ∷ xs)) ≡ suc (length (rising_owners xs))
unfolding tasks
one_more_task x xs absent task = one_more (is_among xs) x TASKS 1 absent (grind (arith, nat_tests)) (grind (arith, nat_tests))

-- there are as many
pub as_many : (owners : List ℕ) → has_twice owners ≡ false → AllByRecursion (λ o. is_task o ≡ true) owners → length (rising_owners owners) ≡ length owners
as_many [] h known = ap length (rising_stay [] (omega arith))
as_many (x ∷ xs) h known =
    let parts = neither (is_among xs x) (has_twice xs) h in
    one_more_task x xs parts.0 known.0 ∙ ap suc (as_many xs parts.1 known.1)
  where
    neither : (a b : Bool) → (a || b) ≡ false → (a ≡ false) × (b ≡ false)
    neither true b e = absurd (cc)
    neither false b e = (refl, e)

-- what is known of slices that make an assignment, one by one
record IsSound (slice : Slice) : Type 0 where
  distinct : has_twice slice.owners ≡ false
  tasks : All (λ o. is_task o ≡ true) slice.owners

sound : (slices : List Slice) → IsAccepted slices → AllByRecursion IsSound slices
sound slices facts = recursion_from_All IsSound slices (λ k d l. record { distinct = facts.distinct k d l; tasks = (facts.proper k d l).tasks })

sound_many : (slice : Slice) → IsSound slice → length (rising_owners slice.owners) ≡ length slice.owners
sound_many slice s = as_many slice.owners s.distinct (recursion_from_All (λ o. is_task o ≡ true) slice.owners s.tasks)

-- a test that says the same of each slice says the same of the list
any_same : (test : Slice → Bool) (slices : List Slice) → AllByRecursion (λ s. test (in_rising_order s) ≡ test s) slices → list_any test (with_rising_owners slices) ≡ list_any test slices
any_same test [] same = refl
any_same test (s ∷ slices) same = rw (same.0, any_same test slices same.1) refl

any_sound : (test : Slice → Bool) (slices : List Slice) → ((s : Slice) → IsSound s → test (in_rising_order s) ≡ test s) → IsAccepted slices → list_any test (with_rising_owners slices) ≡ list_any test slices
any_sound test slices same facts = any_same test slices (all_weaker IsSound (λ s. test (in_rising_order s) ≡ test s) slices same (sound slices facts))

same_first : (key : ℕ) (slices : List Slice) → first_starts_at key (with_rising_owners slices) ≡ first_starts_at key slices
same_first key [] = refl
same_first key (s ∷ slices) = refl

same_order : (slices : List Slice) → is_rising (with_rising_owners slices) ≡ is_rising slices
same_order [] = refl
same_order (s ∷ []) = refl
same_order (s ∷ u ∷ slices) = ap (λ b. nat_lt s.start u.start && b) (same_order (u ∷ slices))

no_strangers : (owners : List ℕ) → Rises 1 owners 65 → list_any (λ o. not (is_task o)) owners ≡ false
no_strangers owners h = list_any_none (λ o. not (is_task o)) owners (λ i d l. let p = from_low 1 65 owners h i d l in let q = below_high 1 65 owners h i d l in (let known : is_task (get_or owners i d) ≡ true = grind (arith, nat_tests) in rw known refl))

-- slices that make an assignment make one with their owners in rising order
pub rising_accepted : (slices : List Slice) → refusal_of slices ≡ None → refusal_of (with_rising_owners slices) ≡ None
unfolding refusal_of
rising_accepted slices accepted =
    let facts = acceptance slices accepted in
    let e1 : length (with_rising_owners slices) ≡ length slices = length-map slices in_rising_order in
    let e4 : list_any (λ (s : Slice). nat_le KEYS s.start) (with_rising_owners slices) ≡ list_any (λ s. nat_le KEYS s.start) slices = any_sound (λ s. nat_le KEYS s.start) slices (λ s h. refl) facts in
    let e5 : list_any (λ (s : Slice). length s.owners == 0) (with_rising_owners slices) ≡ list_any (λ s. length s.owners == 0) slices = any_sound (λ s. length s.owners == 0) slices (λ s h. ap (λ n. n == 0) (sound_many s h)) facts in
    let e6 : list_any (λ (s : Slice). nat_lt MOST_OWNERS (length s.owners)) (with_rising_owners slices) ≡ list_any (λ s. nat_lt MOST_OWNERS (length s.owners)) slices = any_sound (λ s. nat_lt MOST_OWNERS (length s.owners)) slices (λ s h. ap (λ n. nat_lt MOST_OWNERS n) (sound_many s h)) facts in
    let e7 : list_any (λ (s : Slice). has_twice s.owners) (with_rising_owners slices) ≡ list_any (λ s. has_twice s.owners) slices = any_sound (λ s. has_twice s.owners) slices (λ s h. not_twice 1 65 (rising_owners s.owners) (owners_rise_between s.owners) ∙ sym h.distinct) facts in
    let e8 : list_any (λ (s : Slice). list_any (λ o. not (is_task o)) s.owners) (with_rising_owners slices) ≡ list_any (λ s. list_any (λ o. not (is_task o)) s.owners) slices =
    any_sound (λ s. list_any (λ o. not (is_task o)) s.owners) slices (λ s h. no_strangers (rising_owners s.owners) (owners_rise_between s.owners) ∙ sym (list_any_none (λ o. not (is_task o)) s.owners (λ i d l. let known = h.tasks i d l in rw known refl))) facts in
    rw (e1, same_first 0 slices, same_order slices, e4, e5, e6, e7, e8) accepted

-- slices with their owners in rising order stay as they are
pub rising_again : (slices : List Slice) → with_rising_owners (with_rising_owners slices) ≡ with_rising_owners slices
rising_again [] = refl
rising_again (s ∷ slices) = rw (rising_twice s.owners, rising_again slices) refl

pub each_rises : (slices : List Slice) → AllByRecursion (λ s. IsStrictlyIncreasing s.owners) (with_rising_owners slices)
each_rises [] = tt
each_rises (s ∷ slices) = (rises_increasing 1 65 (rising_owners s.owners) (owners_rise_between s.owners), each_rises slices)

-- a slice has as many owners
pub same_counts : (slices : List Slice) (most : ℕ) → refusal_of slices ≡ None
    → list_any (λ s. nat_lt most (length s.owners)) (with_rising_owners slices) ≡ list_any (λ s. nat_lt most (length s.owners)) slices
same_counts slices most accepted = any_sound (λ s. nat_lt most (length s.owners)) slices (λ s h. ap (λ n. nat_lt most n) (sound_many s h)) (acceptance slices accepted)

same_greater : (s : Slice) (o : Option Slice) → greater (in_rising_order s) (option_map in_rising_order o) ≡ in_rising_order (greater s o)
same_greater s None = refl
same_greater s (Some other) = by_test (nat_lt s.start other.start)
  where
    by_test : (b : Bool) → (if b then in_rising_order other else in_rising_order s) ≡ in_rising_order (if b then other else s)
    by_test true = refl
    by_test false = refl

same_slice_at : (slices : List Slice) (key : ℕ) → slice_at (with_rising_owners slices) key ≡ option_map in_rising_order (slice_at slices key)
same_slice_at [] key = refl
same_slice_at (s ∷ slices) key = rw (same_slice_at slices key) (by_test (nat_le s.start key))
  where
    by_test : (b : Bool) → (if b then Some (greater (in_rising_order s) (option_map in_rising_order (slice_at slices key))) else option_map in_rising_order (slice_at slices key))
        ≡ option_map in_rising_order (if b then Some (greater s (slice_at slices key)) else slice_at slices key)
    by_test true = ap Some (same_greater s (slice_at slices key))
    by_test false = refl

-- a task owns the same keys
pub same_owns : (slices : List Slice) (key task : ℕ) → refusal_of slices ≡ None → owns (with_rising_owners slices) key task ≡ owns slices key task
same_owns slices key task accepted = rw (same_slice_at slices key) (by_slice (slice_at slices key) refl)
  where
    by_slice : (o : Option Slice) → o ≡ slice_at slices key → option_map_or (λ (s : Slice). is_among s.owners task) (option_map in_rising_order o) false ≡ option_map_or (λ (s : Slice). is_among s.owners task) o false
    by_slice None e = refl
    by_slice (Some found) e = same_among found.owners (of_slice_at IsSound key slices (sound slices (acceptance slices accepted)) found (sym e)).tasks task

-- a key has the same owners
pub same_owners_of : (slices : List Slice) (key : ℕ) → refusal_of slices ≡ None → owners_of (with_rising_owners slices) key ≡ owners_of slices key
same_owners_of slices key accepted = filter_agree (owns (with_rising_owners slices) key) (owns slices key) (λ task. same_owns slices key task accepted) tasks

-- equal sets of owners are equal owners
same_with_rising : (xs ys : List Slice) → HaveSameOwners xs ys → with_rising_owners xs ≡ with_rising_owners ys
same_with_rising [] [] same = refl
same_with_rising [] (y ∷ ys) same = absurd same
same_with_rising (x ∷ xs) [] same = absurd same
same_with_rising (x ∷ xs) (y ∷ ys) same =
    let owners : rising_owners x.owners ≡ rising_owners y.owners = filter_agree (is_among x.owners) (is_among y.owners) same.0.owners tasks in
    rw (same.0.start, owners, same_with_rising xs ys same.1) refl

pub same_built : (generation : ℕ) (xs ys : List Slice) → HaveSameOwners xs ys → built generation xs ≡ built generation ys
same_built generation xs ys same = rw (same_with_rising xs ys same) refl

-- each slice of a list that stays as it is has its owners in rising order
pub each_stays : (slices : List Slice) → with_rising_owners slices ≡ slices → AllByRecursion (λ s. rising_owners s.owners ≡ s.owners) slices
each_stays [] same = tt
each_stays (s ∷ slices) same = (first same, each_stays slices (rest same))
  where
    head : {x y : Slice} {xs ys : List Slice} → x ∷ xs ≡ y ∷ ys → x ≡ y
    head e = cc

    first : {x y : Slice} {xs ys : List Slice} → x ∷ xs ≡ y ∷ ys → x.owners ≡ y.owners
    first e = ap (λ (z : Slice). z.owners) (head e)

    rest : {x y : Slice} {xs ys : List Slice} → x ∷ xs ≡ y ∷ ys → xs ≡ ys
    rest e = cc

-- the owners of a key, where the owners of each slice are in rising order
module _ (slices : List Slice) (key : ℕ) (found : Slice) (at : slice_at slices key ≡ Some found) where
  module _ (stays : with_rising_owners slices ≡ slices) where
    found_stays : rising_owners found.owners ≡ found.owners
    found_stays = of_slice_at (λ s. rising_owners s.owners ≡ s.owners) key slices (each_stays slices stays) found at

    pub owners_are : found.owners ≡ owners_of slices key
    owners_are = sym (filter_agree (owns slices key) (is_among found.owners) (λ t. rw at refl) tasks ∙ found_stays)

    pub owners_increase : IsStrictlyIncreasing found.owners
    owners_increase = subst IsStrictlyIncreasing found_stays (rises_increasing 1 65 (rising_owners found.owners) (owners_rise_between found.owners))

  pub owners_exist : IsAccepted slices → 0 < length found.owners
  owners_exist facts = of_slice_at (λ s. 0 < length s.owners) key slices (recursion_from_All (λ s. 0 < length s.owners) slices facts.owned) found at

  pub owners_of_slice : IsAccepted slices → (slice : Slice) → IsSliceOf slices key slice → (task : ℕ) → Contains found.owners task ↔ Contains slice.owners task
  owners_of_slice facts slice h task =
      let is : found ≡ slice = some_is (sym at ∙ slice_at_is slices slice key facts.rising h) in
      let P : Slice → Type 0 = λ s. Contains found.owners task ↔ Contains s.owners task in
      subst P is (λ h. h, λ h. h)

-- what is built of slices that make an assignment
pub built_well : (slices items : List Slice) → items ≡ with_rising_owners slices → refusal_of slices ≡ None → (refusal_of items ≡ None) × (with_rising_owners items ≡ items)
built_well slices items is accepted = rw is (rising_accepted slices accepted, rising_again slices)
