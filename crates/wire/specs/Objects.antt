-- How values are written as JSON.
use Rattle.std.specs.Prelude.{ℕ, List, [], ◌∷◌, map}
use Rattle.serde_json.specs.Data.{Data, unsigned, number, array, object, Members, no_members, member}
use Rattle.serde_json.specs.View.{items_of}

-- a number
abbrev pub number_data : ℕ → Data
number_data n = number (unsigned n)

-- these members, each a name and a value
abbrev members_of : List (List ℕ × Data) → Members
members_of [] = no_members
members_of (m ∷ ms) = member m.0 m.1 (members_of ms)

-- an object with these members, which stand in the order of their names
abbrev pub object_data : List (List ℕ × Data) → Data
object_data members = object (members_of members)

-- an array with each of the elements written
abbrev pub list_data : {A : Type 0} → (A → Data) → List A → Data
list_data write xs = array (items_of (map write xs))
