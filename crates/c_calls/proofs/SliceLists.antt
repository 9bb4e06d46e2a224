-- Lists of slices that numbers say, and why they make no assignment.
use Rattle.std.proofs.Common.{◌≡◌, Bool, List, [], ◌∷◌, drop, length, refl, ap}
use Rattle.std.specs.Prelude.{◌&&◌, ◌||◌, ◌==◌, nat_le, nat_lt, not}
use Rattle.std.specs.List.{list_any, list_all, zip}
use Rattle.std.proofs.lemmas.List.{length-map}
use Rattle.machines.specs.Refusals.{first_of, when}
use Rattle.slice_ranges.specs.declared.key.TheConstants.{KEYS}
use Rattle.assignment.specs.declared.assignment.TheConstants.{MOST_SLICES}
use Rattle.assignment.specs.declared.error.AssignmentError.TheVariants.{NoSlices, FirstNotZero, NotRising, PastEnd, NoOwner, TooManyOwners, OwnerTwice, BadTask, TooManySlices}
use Rattle.assignment.specs.declared.slice.Slice.{Slice}
use Rattle.assignment.specs.declared.slice.TheConstants.{MOST_OWNERS}
use Rattle.assignment.specs.Slices.{first_starts_at, has_twice, is_task, refusal_of}
use Rattle.c_calls.specs.declared.assignments.SliceNumbers.{SliceNumbers}
use Rattle.c_calls.specs.Assignments.{slice_of, slices_of}

-- a test of a slice is one of its numbers
any_slice : (test : Slice → Bool) (ns : List SliceNumbers) → list_any test (slices_of ns) ≡ list_any (λ n. test (slice_of n)) ns
any_slice test [] = refl
any_slice test (n ∷ ns) = ap (λ b. test (slice_of n) || b) (any_slice test ns)

-- and so it is of two at a time
all_pairs : (test : Slice × Slice → Bool) (ns ms : List SliceNumbers)
    → list_all test (zip (slices_of ns) (slices_of ms)) ≡ list_all (λ p. test (slice_of p.0, slice_of p.1)) (zip ns ms)
all_pairs test [] ms = refl
all_pairs test (n ∷ ns) [] = refl
all_pairs test (n ∷ ns) (m ∷ ms) = ap (λ b. test (slice_of n, slice_of m) && b) (all_pairs test ns ms)

all_neighbours : (test : Slice × Slice → Bool) (ns : List SliceNumbers)
    → list_all test (zip (slices_of ns) (drop 1 (slices_of ns))) ≡ list_all (λ p. test (slice_of p.0, slice_of p.1)) (zip ns (drop 1 ns))
all_neighbours test [] = refl
all_neighbours test (n ∷ ns) = all_pairs test (n ∷ ns) ns

-- the refusals, by the numbers
pub refusal_by : (ns : List SliceNumbers) → refusal_of (slices_of ns) ≡ first_of (
    when (length ns == 0) NoSlices ∷
    when (not (first_starts_at 0 (slices_of ns))) FirstNotZero ∷
    when (not (list_all (λ p. nat_lt p.0.start p.1.start) (zip ns (drop 1 ns)))) NotRising ∷
    when (list_any (λ n. nat_le KEYS (slice_of n).start) ns) PastEnd ∷
    when (list_any (λ n. length (slice_of n).owners == 0) ns) NoOwner ∷
    when (list_any (λ n. nat_lt MOST_OWNERS (length (slice_of n).owners)) ns) TooManyOwners ∷
    when (list_any (λ n. has_twice (slice_of n).owners) ns) OwnerTwice ∷
    when (list_any (λ n. list_any (λ o. not (is_task o)) (slice_of n).owners) ns) BadTask ∷
    when (nat_lt MOST_SLICES (length ns)) TooManySlices ∷ [])
unfolding refusal_of
refusal_by ns = rw (
  length-map ns slice_of,
  all_neighbours (λ p. nat_lt p.0.start p.1.start) ns,
  any_slice (λ s. nat_le KEYS s.start) ns,
  any_slice (λ s. length s.owners == 0) ns,
  any_slice (λ s. nat_lt MOST_OWNERS (length s.owners)) ns,
  any_slice (λ s. has_twice s.owners) ns,
  any_slice (λ s. list_any (λ o. not (is_task o)) s.owners) ns,
) refl
