-- Assignments as JSON.
use Rattle.std.specs.Prelude.{ℕ, List, [], ◌∷◌, codes, Option, Some, None, Result, Ok, Err}
use Rattle.serde_json.specs.Data.{Data, array, item, no_items}
use Rattle.assignment.specs.Slices.{Slicing, refusal_of}
use Rattle.assignment.specs.Owners.{built}
use Rattle.assignment.specs.declared.slice.Slice.{Slice}
use Rattle.assignment.specs.declared.error.AssignmentError.{AssignmentError}
use Rattle.program_io.specs.declared.fault.WrongForm.{WrongForm}
use Rattle.program_io.specs.Reading.{◌>>=◌, ◌>>◌}
use Rattle.program_io.specs.Members.{exactly, list_at, list_of, number_of, pair_of}
use Rattle.wire.specs.declared.fault.DecodeRefusal.{DecodeRefusal}
use Rattle.wire.specs.declared.fault.DecodeRefusal.TheVariants.{Slices}
use Rattle.wire.specs.declared.numerals.Numerals.{Numerals}
use Rattle.wire.specs.Numerals.{numeral_at, numeral_data, numeral_of}
use Rattle.wire.specs.Objects.{list_data, number_data, object_data}
use Rattle.wire.specs.Refusals.{or_wrong}

-- `[START,[OWNER,..]]`
abbrev pub slice_data : Numerals → Slice → Data
slice_data numerals slice = array (item (numeral_data numerals slice.start) (item (list_data number_data slice.owners) no_items))

-- `{"generation":G,"slices":[[START,[OWNER,..]],..]}`
abbrev pub assignment_data : Numerals → Slicing → Data
assignment_data numerals a = object_data
    ((codes "generation", numeral_data numerals a.generation) ∷
    (codes "slices", list_data (slice_data numerals) a.slices) ∷ [])

-- a slice, written as `[start, [owner, ..]]`
unfoldable pub slice_of : Numerals → Data → Result Slice WrongForm
slice_of numerals d = do
  pair ← pair_of d
  start ← numeral_of numerals pair.0
  owners ← list_of number_of pair.1
  Ok (record { start = start; owners = owners })

-- the assignment that is built of a generation and slices, unless they are refused
abbrev pub slicing_of : ℕ → List Slice → Option AssignmentError → Result Slicing DecodeRefusal
slicing_of generation slices None = Ok (built generation slices)
slicing_of generation slices (Some why) = Err (Slices why)

-- the members `generation` and `slices` of an object, as an assignment
unfoldable pub slicing_in : Numerals → Data → Result Slicing DecodeRefusal
slicing_in numerals d = do
  generation ← or_wrong (numeral_at numerals (codes "generation") d)
  slices ← or_wrong (list_at (slice_of numerals) (codes "slices") d)
  slicing_of generation slices (refusal_of slices)

-- an assignment has a generation and slices
unfoldable pub assignment_of : Numerals → Data → Result Slicing DecodeRefusal
assignment_of numerals d = do
  or_wrong (exactly (codes "generation" ∷ codes "slices" ∷ []) d)
  slicing_in numerals d
