-- How single values and members are written.
use Rattle.std.specs.Prelude.{ℕ, List, [], ◌∷◌, codes, Option, Some, None}
use Rattle.serde_json.specs.Data.{Data, Members, put, string}
use Rattle.wire.specs.declared.numerals.Numerals.TheVariants.{Quoted}
use Rattle.wire.specs.Numerals.{numeral_data}
use Rattle.wire.specs.Objects.{object_data}

-- a number that may be 2^53 or more: the text of its decimal digits
abbrev pub large_data : ℕ → Data
large_data n = numeral_data Quoted n

-- these members, and one of this name where there is a value
abbrev pub put_if : List ℕ → Option Data → Members → Members
put_if name None members = members
put_if name (Some value) members = put name value members

-- a reply of this name, with nothing more
abbrev pub plain_data : List ℕ → Data
plain_data name = object_data ((codes "reply", string name) ∷ [])

-- a refusal with this word, with nothing more
abbrev pub refused_data : List ℕ → Data
refused_data word = object_data ((codes "refused", string word) ∷ [])
