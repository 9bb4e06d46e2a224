-- A share that is gathered, or refused by what a book may still grow.
use Rattle.std.proofs.Common.{◌≡◌, ◌<◌, ◌≤◌, ◌+◌, ℕ, true, false, List, [], ◌∷◌, Option, None, length, refl, sym, subst, inl, inr, arith}
use Rattle.std.specs.Prelude.{nat_lt, sum}
use Rattle.std.proofs.lemmas.Bool.Decides.{nat_tests}
use Rattle.std.proofs.lemmas.List.{length-map}
use Rattle.machines.specs.Refusals.{first_of}
use Rattle.assignment.specs.declared.slice.Slice.{Slice}
use Rattle.load_ledger.specs.declared.error.LoadError.TheVariants.{TotalRange}
use Rattle.load_ledger.specs.declared.share.TheConstants.{MOST_TOTAL}
use Rattle.load_ledger.specs.Books.{gather_checks, records_of, shares_total}
use Rattle.load_ledger.specs.Loads.{slice_loads}
use Rattle.load_ledger.specs.Shares.{Share, share_total}
use Rattle.c_calls.specs.declared.answer.Answer.{Answer}
use Rattle.c_calls.specs.declared.answer.Answer.TheVariants.{Load, NoRoom}
use Rattle.c_calls.specs.Gathers.{IsGatheredUnless}
use Rattle.c_calls.specs.LoadRecords.{IsUnshared}
use Rattle.c_calls.specs.Outputs.{Output, output}

-- a book of which this much is left, and a share
module _ (left : ℕ) (book : List ℕ) (share : Share) (slices : List Slice) (room : left + sum book ≡ MOST_TOTAL) where
  heavy : nat_lt left (share_total share) ≡ true → nat_lt MOST_TOTAL (sum book + shares_total (share ∷ [])) ≡ true
  heavy e = grind (arith, nat_tests, e, room)

  light : nat_lt left (share_total share) ≡ false → nat_lt MOST_TOTAL (sum book + shares_total (share ∷ [])) ≡ false
  light e = grind (arith, nat_tests, e, room)

  pub accepted : nat_lt left (share_total share) ≡ false → first_of (gather_checks (share ∷ []) book) ≡ None
  accepted e = rw (light e) refl

  pub above : (why : Option Answer) (was : Output ℕ) → why ≡ None → nat_lt left (share_total share) ≡ true
      → IsGatheredUnless why share slices book book was was (Load TotalRange)
  above why was none e =
      subst (λ w. IsGatheredUnless w share slices book book was was (Load TotalRange)) (sym none) (rw (heavy e) (refl, refl, refl))

  pub no_room : (why : Option Answer) (buffer : List ℕ) (was : ℕ) → why ≡ None → nat_lt left (share_total share) ≡ false → length buffer < length slices
      → IsGatheredUnless why share slices book book (output buffer was) (output buffer (length slices)) NoRoom
  no_room why buffer was none e short =
      let size : length slices ≡ length (slice_loads slices (records_of (share ∷ []))) = sym (length-map slices _) in
      let long : length buffer < length (slice_loads slices (records_of (share ∷ []))) = rw size at short in
      subst (λ w. IsGatheredUnless w share slices book book (output buffer was) (output buffer (length slices)) NoRoom) (sym none)
      (rw (light e) (inl (record { list = slice_loads slices (records_of (share ∷ [])); is = refl; given = inr (refl, refl, record { long = long; same = refl; size = size }) })))

  pub no_share : (why : Option Answer) (was : Output ℕ) (answer : Answer) → why ≡ None → nat_lt left (share_total share) ≡ false → length slices ≤ length was.buffer
      → IsUnshared why (share_total share) answer → IsGatheredUnless why share slices book book was was answer
  no_share why was answer none e fits unshared =
      let size : length (slice_loads slices (records_of (share ∷ []))) ≡ length slices = length-map slices _ in
      let fits_loads : length (slice_loads slices (records_of (share ∷ []))) ≤ length was.buffer = omega (arith, size, fits) in
      let below : share_total share ≤ MOST_TOTAL = grind (arith, nat_tests, e, room) in
      subst (λ w. IsGatheredUnless w share slices book book was was answer) (sym none)
      (elim (subst (λ w. IsUnshared w (share_total share) answer) none unshared) [
        | inl over ↦ absurd (omega (arith, over.1, below))
        | inr memory ↦ rw (light e) (inr (fits_loads, memory.0, refl, refl))
      ])
