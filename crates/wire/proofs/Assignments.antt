-- What is written of an assignment is read as the assignment.
use Rattle.std.proofs.Common.{◌≡◌, ◌^◌, ◌<◌, ◌≤◌, false, List, None, Ok, refl, arith}
use Rattle.std.specs.List.{AllByRecursion}
use Rattle.std.proofs.lemmas.List.Elements.{recursion_from_All}
use Rattle.serde_json.specs.Data.{Data, depth}
use Rattle.serde_json.specs.Written.{has_float, outline}
use Rattle.assignment.specs.Slices.{Slicing, refusal_of}
use Rattle.assignment.specs.Owners.{with_rising_owners}
use Rattle.assignment.specs.declared.slice.Slice.{Slice}
use Rattle.program_io.specs.Repeated.{first_repeated}
use Rattle.program_io.specs.Members.{list_at, list_of, number_of}
use Rattle.assignment.proofs.Acceptance.{acceptance}
use Rattle.wire.specs.declared.numerals.Numerals.TheVariants.{Quoted}
use Rattle.wire.specs.Assignments.{assignment_data, assignment_of, slice_data, slice_of, slicing_in}
use Rattle.wire.specs.Messages.{IsWritten}
use Rattle.wire.specs.Objects.{list_data, number_data}
use Rattle.wire.proofs.Digits.{digits_read}
use Rattle.wire.proofs.Lists.{any_list_read, items_once, items_shallow, items_whole, list_read}

-- the start of a slice has 64 bits
abbrev IsSmall : Slice → Type 0
IsSmall slice = slice.start < 2 ^ 64

slice_read : (slice : Slice) → IsSmall slice → slice_of Quoted (slice_data Quoted slice) ≡ Ok slice
unfolding slice_of
slice_read slice small = rw (digits_read slice.start small, any_list_read number_of number_data (λ n. refl) slice.owners) refl

starts_small : (slices : List Slice) → refusal_of slices ≡ None → AllByRecursion IsSmall slices
starts_small slices accepted = recursion_from_All IsSmall slices (λ k d l. omega (arith, ((acceptance slices accepted).proper k d l).starts))

pub slices_read : (slices : List Slice) → refusal_of slices ≡ None → list_of (slice_of Quoted) (list_data (slice_data Quoted) slices) ≡ Ok slices
slices_read slices accepted = list_read (slice_of Quoted) (slice_data Quoted) IsSmall slice_read slices (starts_small slices accepted)

slice_whole : (slice : Slice) → has_float (slice_data Quoted slice) ≡ false
slice_whole slice = rw (items_whole number_data (λ n. refl) slice.owners) refl

slice_shallow : (slice : Slice) → depth (slice_data Quoted slice) ≤ 2
slice_shallow slice = omega (arith, items_shallow number_data 0 (λ n. omega arith) slice.owners)

slice_once : (slice : Slice) → first_repeated (outline (slice_data Quoted slice)) ≡ None
slice_once slice = rw (items_once number_data (λ n. refl) slice.owners) refl

pub slices_once : (slices : List Slice) → first_repeated (outline (list_data (slice_data Quoted) slices)) ≡ None
slices_once slices = items_once (slice_data Quoted) slice_once slices

pub slices_whole : (slices : List Slice) → has_float (list_data (slice_data Quoted) slices) ≡ false
slices_whole slices = items_whole (slice_data Quoted) slice_whole slices

pub slices_shallow : (slices : List Slice) → depth (list_data (slice_data Quoted) slices) ≤ 3
slices_shallow slices = omega (arith, items_shallow (slice_data Quoted) 2 slice_shallow slices)

pub assignment_read : (a : Slicing) → a.generation < 2 ^ 64 → refusal_of a.slices ≡ None → with_rising_owners a.slices ≡ a.slices → assignment_of Quoted (assignment_data Quoted a) ≡ Ok a
unfolding assignment_of slicing_in list_at
assignment_read a generation accepted rising = rw (digits_read a.generation generation, slices_read a.slices accepted, accepted, rising) refl

pub assignment_written : (a : Slicing) (d : Data) → d ≡ assignment_data Quoted a → assignment_of Quoted (assignment_data Quoted a) ≡ Ok a → IsWritten assignment_data assignment_of a d
assignment_written a d is reads = record {
  is = is;
  reads = rw (is, reads) refl;
  whole = rw (is, slices_whole a.slices) refl;
  shallow = rw is (omega (arith, slices_shallow a.slices));
  once = rw (is, slices_once a.slices) refl;
}
