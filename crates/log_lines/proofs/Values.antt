-- What is written in a line of grants, notes, handles and slices is read as these.
use Rattle.std.proofs.Common.{◌≡◌, ℕ, ◌^◌, ◌<◌, ◌≤◌, false, List, None, Ok, refl, arith}
use Rattle.std.proofs.lemmas.Bool.{lt-ltb}
use Rattle.serde_json.specs.Data.{depth}
use Rattle.serde_json.specs.Written.{has_float, outline}
use Rattle.slice_ranges.specs.declared.key.TheConstants.{KEYS}
use Rattle.slice_ranges.specs.Sets.{IsRanges}
use Rattle.assignment.specs.declared.slice.Slice.{Slice}
use Rattle.assignment.specs.declared.task.TheConstants.{TASKS}
use Rattle.grants.specs.declared.values.Grant.{Grant}
use Rattle.grants.specs.declared.values.ReleaseNote.{ReleaseNote}
use Rattle.key_handle.specs.declared.handle.KeyHandle.{KeyHandle}
use Rattle.program_io.specs.Members.{list_of, number_of}
use Rattle.program_io.specs.Repeated.{first_repeated}
use Rattle.wire.specs.declared.numerals.Numerals.TheVariants.{Either}
use Rattle.wire.specs.Assignments.{slice_data, slice_of}
use Rattle.wire.specs.Grants.{grant_data, grant_of}
use Rattle.wire.specs.Handles.{handle_data, handle_of}
use Rattle.wire.specs.Notes.{note_data, note_of}
use Rattle.wire.specs.Numerals.{two_numerals_of}
use Rattle.wire.specs.Objects.{list_data, number_data}
use Rattle.wire.specs.Ranges.{pair_data, pairs_of, ranges_data, ranges_of}
use Rattle.wire.proofs.Lists.{any_list_read, items_once, items_shallow, items_whole}
use Rattle.wire.proofs.Notes.{kind_read}
use Rattle.wire.proofs.Numbers.{is_life, is_task}
use Rattle.wire.proofs.Pairs.{pairs_of_set}

-- SLICES

slice_read : (slice : Slice) → slice_of Either (slice_data Either slice) ≡ Ok slice
unfolding slice_of
slice_read slice = rw (any_list_read number_of number_data (λ n. refl) slice.owners) refl

pub slices_read : (slices : List Slice) → list_of (slice_of Either) (list_data (slice_data Either) slices) ≡ Ok slices
slices_read slices = any_list_read (slice_of Either) (slice_data Either) slice_read slices

slice_whole : (slice : Slice) → has_float (slice_data Either slice) ≡ false
slice_whole slice = rw (items_whole number_data (λ n. refl) slice.owners) refl

slice_shallow : (slice : Slice) → depth (slice_data Either slice) ≤ 2
slice_shallow slice = omega (arith, items_shallow number_data 0 (λ n. omega arith) slice.owners)

slice_once : (slice : Slice) → first_repeated (outline (slice_data Either slice)) ≡ None
slice_once slice = rw (items_once number_data (λ n. refl) slice.owners) refl

pub slices_once : (slices : List Slice) → first_repeated (outline (list_data (slice_data Either) slices)) ≡ None
slices_once slices = items_once (slice_data Either) slice_once slices

pub slices_whole : (slices : List Slice) → has_float (list_data (slice_data Either) slices) ≡ false
slices_whole slices = items_whole (slice_data Either) slice_whole slices

pub slices_shallow : (slices : List Slice) → depth (list_data (slice_data Either) slices) ≤ 3
slices_shallow slices = omega (arith, items_shallow (slice_data Either) 2 slice_shallow slices)

-- GRANTS

pair_read : (pair : ℕ × ℕ) → two_numerals_of Either (pair_data Either pair) ≡ Ok pair
unfolding two_numerals_of
pair_read pair = refl

ranges_read : (bs : List ℕ) → IsRanges bs → ranges_of Either (ranges_data Either bs) ≡ Ok bs
unfolding ranges_of
ranges_read bs ranges = rw (any_list_read (two_numerals_of Either) (pair_data Either) pair_read (pairs_of bs)) (pairs_of_set bs ranges)

pub grant_read : (grant : Grant) → grant.life < 2 ^ 32 → 1 ≤ grant.task → grant.task ≤ TASKS → IsRanges grant.lease.ranges → grant_of Either (grant_data Either grant) ≡ Ok grant
unfolding grant_of
grant_read grant life low high ranges =
    rw (is_task grant.task TASKS low high, is_life grant.life life, kind_read grant.lease.kind, ranges_read grant.lease.ranges ranges) refl

pub grant_whole : (grant : Grant) → has_float (grant_data Either grant) ≡ false
grant_whole grant = rw (items_whole (pair_data Either) (λ pair. refl) (pairs_of grant.lease.ranges)) refl

pub grant_shallow : (grant : Grant) → depth (grant_data Either grant) ≤ 3
grant_shallow grant = omega (arith, items_shallow (pair_data Either) 1 (λ pair. omega arith) (pairs_of grant.lease.ranges))

pub grant_once : (grant : Grant) → first_repeated (outline (grant_data Either grant)) ≡ None
grant_once grant = rw (items_once (pair_data Either) (λ pair. refl) (pairs_of grant.lease.ranges)) refl

-- NOTES AND HANDLES

pub note_read : (note : ReleaseNote) → note.life < 2 ^ 32 → 1 ≤ note.task → note.task ≤ TASKS → note_of Either (note_data Either note) ≡ Ok note
unfolding note_of
note_read note life low high = rw (is_task note.task TASKS low high, is_life note.life life, kind_read note.kind) refl

pub handle_read : (handle : KeyHandle) → handle.life < 2 ^ 32 → 1 ≤ handle.task → handle.task ≤ TASKS → handle.key < KEYS → handle_of Either (handle_data Either handle) ≡ Ok handle
unfolding handle_of
handle_read handle life low high key = rw (is_task handle.task TASKS low high, is_life handle.life life, lt-ltb handle.key KEYS key) refl
