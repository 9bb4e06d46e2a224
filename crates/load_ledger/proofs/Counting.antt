-- Each record counts for one slice.
use Rattle.std.proofs.Common.{◌≡◌, ◌∙◌, ℕ, suc, ◌+◌, ◌<◌, ◌≤◌, inl, inr, Bool, true, false, List, [], ◌∷◌, length, get_or, refl, sym, ap, arith}
use Rattle.std.specs.Prelude.{◌==◌, if◌then◌else◌, filter, sum, sum_by, Option, Some, None, unwrap_or}
use Rattle.std.proofs.lemmas.Bool.Decides.{nat_tests}
use Rattle.std.proofs.lemmas.Bool.{cases_lt}
use Rattle.std.proofs.lemmas.List.Elements.{recursion_from_All}
use Rattle.std.proofs.lemmas.List.Sums.{sum_by-cons, sum-map}
use Rattle.assignment.specs.declared.slice.Slice.{Slice}
use Rattle.assignment.specs.Slices.{is_rising, refusal_of}
use Rattle.assignment.specs.Owners.{slice_at}
use Rattle.assignment.proofs.Acceptance.{acceptance}
use Rattle.assignment.proofs.SliceOrder.{found_first, first_or_later, none_from, of_slice_at, rising_rest, some_is}
use Rattle.load_ledger.specs.declared.share.LoadRecord.{LoadRecord}
use Rattle.load_ledger.specs.Shares.{Share, total_weight}
use Rattle.load_ledger.specs.Loads.{is_in, slice_load, slice_loads}
use Rattle.load_ledger.specs.Books.{records_of, shares_total}
use Rattle.load_ledger.proofs.Places.{later_at}
use Rattle.load_ledger.proofs.Loading.{total_of_records}

-- a weight at the slices that start at a key
at_start : ℕ → ℕ → Slice → ℕ
at_start start weight slice = if start == slice.start then weight else 0

none_starts : (start weight : ℕ) (slices : List Slice) → ((k : ℕ) (d : Slice) → k < length slices → start < (get_or slices k d).start) → sum_by (at_start start weight) slices ≡ 0
unfolding at_start
none_starts start weight [] above = refl
none_starts start weight (s ∷ slices) above =
    let other : (start == s.start) ≡ false = let l : start < s.start = above 0 s (omega arith) in grind (arith, nat_tests) in
    rw (sum_by-cons (at_start start weight) s slices, other, none_starts start weight slices (λ k d l. above (suc k) d (omega arith))) refl

-- one slice starts where the slice of a key does
found_once : (key weight : ℕ) (slices : List Slice) (found : Slice) → is_rising slices ≡ true → slice_at slices key ≡ Some found → sum_by (at_start found.start weight) slices ≡ weight
unfolding at_start
found_once key weight [] found rising at = absurd (cc)
found_once key weight (s ∷ slices) found rising at = elim (cases_lt key s.start) [
  | inl above ↦ absurd (let none = none_from s slices key rising above in cc)
  | inr begins ↦ by_rest begins (slice_at slices key) refl (found_once key weight slices found (rising_rest s slices rising))
]
  where
    by_rest : s.start ≤ key → (o : Option Slice) → slice_at slices key ≡ o → (slice_at slices key ≡ Some found → sum_by (at_start found.start weight) slices ≡ weight) → sum_by (at_start found.start weight) (s ∷ slices) ≡ weight
    by_rest begins None e rest =
        let is : s ≡ found = some_is (sym (first_or_later s slices key rising begins ∙ rw e refl) ∙ at) in
        let itself : (found.start == s.start) ≡ true = rw is (grind (arith, nat_tests)) in
        let others : sum_by (at_start found.start weight) slices ≡ 0 = rw (← is) (none_starts s.start weight slices (λ k d l. later_at s slices k d rising l)) in
        rw (sum_by-cons (at_start found.start weight) s slices, itself, others) (omega arith)
    by_rest begins (Some f) e rest =
        let is : f ≡ found = some_is (sym (first_or_later s slices key rising begins ∙ rw e refl) ∙ at) in
        let later : s.start < f.start = of_slice_at (λ u. s.start < u.start) key slices (recursion_from_All (λ u. s.start < u.start) slices (λ k d l. later_at s slices k d rising l)) f e in
        let other : (found.start == s.start) ≡ false = rw (← is) (grind (arith, nat_tests)) in
        rw (sum_by-cons (at_start found.start weight) s slices, other, rest (e ∙ ap Some is)) (omega arith)

sum_of_both : (f g h : Slice → ℕ) (slices : List Slice) → ((s : Slice) → h s ≡ f s + g s) → sum_by h slices ≡ sum_by f slices + sum_by g slices
sum_of_both f g h [] both = refl
sum_of_both f g h (s ∷ slices) both =
    rw (sum_by-cons f s slices, sum_by-cons g s slices, sum_by-cons h s slices, both s, sum_of_both f g h slices both) (omega arith)

-- the loads of slices add up to the weights of the records
module _ (slices : List Slice) (accepted : refusal_of slices ≡ None) where
  -- what a record adds to the load of a slice
  added_by : LoadRecord → Slice → ℕ
  added_by added slice = if is_in slices slice added.key then added.weight else 0

  one_slice : (added : LoadRecord) → sum_by (added_by added) slices ≡ added.weight
  unfolding added_by is_in at_start
  one_slice added =
      let origin : Slice = record { start = 0; owners = [] } in
      let facts = acceptance slices accepted in
      let at = found_first slices added.key origin facts.first in
      rw at (found_once added.key added.weight slices (unwrap_or (slice_at slices added.key) origin) facts.rising at)

  kept_weight : (b : Bool) (added : LoadRecord) (kept : List LoadRecord) → total_weight (if b then added ∷ kept else kept) ≡ (if b then added.weight else 0) + total_weight kept
  kept_weight true added kept = sum_by-cons (λ (r : LoadRecord). r.weight) added kept
  kept_weight false added kept = omega arith

  load_with : (added : LoadRecord) (records : List LoadRecord) (slice : Slice) → slice_load slices (added ∷ records) slice ≡ added_by added slice + slice_load slices records slice
  unfolding slice_load added_by
  load_with added records slice = kept_weight (is_in slices slice added.key) added (filter (λ r. is_in slices slice r.key) records)

  none_loaded : (others : List Slice) → sum_by (slice_load slices []) others ≡ 0
  unfolding slice_load
  none_loaded [] = refl
  none_loaded (s ∷ others) = rw (sum_by-cons (slice_load slices []) s others, none_loaded others) refl

  all_counted : (records : List LoadRecord) → sum_by (slice_load slices records) slices ≡ total_weight records
  all_counted [] = none_loaded slices
  all_counted (added ∷ records) =
      rw (sum_of_both (added_by added) (slice_load slices records) (slice_load slices (added ∷ records)) slices (load_with added records), one_slice added, all_counted records, sum_by-cons (λ (r : LoadRecord). r.weight) added records) refl

  pub loads_add_up : (shares : List Share) → sum (slice_loads slices (records_of shares)) ≡ shares_total shares
  loads_add_up shares = sum-map (slice_load slices (records_of shares)) slices ∙ all_counted (records_of shares) ∙ total_of_records shares
