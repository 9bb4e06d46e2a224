-- Sets of slice keys as JSON.
use Rattle.std.specs.Prelude.{ℕ, List, [], ◌∷◌, Option, Some, None, Result, Ok, Err}
use Rattle.serde_json.specs.Data.{Data}
use Rattle.slice_ranges.specs.Sets.{pairs_cover, keys_where, refusal_of}
use Rattle.program_io.specs.Reading.{◌>>=◌}
use Rattle.program_io.specs.Members.{list_of}
use Rattle.wire.specs.declared.fault.DecodeRefusal.{DecodeRefusal}
use Rattle.wire.specs.declared.fault.DecodeRefusal.TheVariants.{Ranges}
use Rattle.slice_ranges.specs.declared.error.RangesError.{RangesError}
use Rattle.wire.specs.declared.numerals.Numerals.{Numerals}
use Rattle.wire.specs.Numerals.{numeral_data, two_numerals_of}
use Rattle.wire.specs.Objects.{list_data}
use Rattle.wire.specs.Refusals.{or_wrong}

-- the ranges between boundaries, each its start and its end
abbrev pub pairs_of : List ℕ → List (ℕ × ℕ)
pairs_of (start ∷ end ∷ boundaries) = (start, end) ∷ pairs_of boundaries
pairs_of _ = []

-- `[START,END]`
abbrev pub pair_data : Numerals → ℕ × ℕ → Data
pair_data numerals pair = list_data (numeral_data numerals) (pair.0 ∷ pair.1 ∷ [])

-- `[[START,END],..]`
abbrev pub ranges_data : Numerals → List ℕ → Data
ranges_data numerals boundaries = list_data (pair_data numerals) (pairs_of boundaries)

-- the set of the keys of pairs, unless they are refused
abbrev pub set_of : List (ℕ × ℕ) → Option RangesError → Result (List ℕ) DecodeRefusal
set_of pairs None = Ok (keys_where (pairs_cover pairs))
set_of pairs (Some why) = Err (Ranges why)

-- the set of the keys of an array of pairs
unfoldable pub ranges_of : Numerals → Data → Result (List ℕ) DecodeRefusal
ranges_of numerals d = do
  pairs ← or_wrong (list_of (two_numerals_of numerals) d)
  set_of pairs (refusal_of pairs)
