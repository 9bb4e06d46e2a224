-- Members of a text that have the name of a member before them in their object.
use Rattle.std.specs.Prelude.{ℕ, ◌+◌, Bool, List, [], ◌∷◌, take, Option, Some, None, option_and_then, if◌then◌else◌}
use Rattle.std.specs.List.{list_any}
use Rattle.std.specs.Option.{option_or}
use Rattle.std.specs.Str.{bytes_eq}
use Rattle.json.specs.Json.{Json, null, boolean, number, string, array, object, Items, no_items, item, Members, no_members, member, value, if_last}
use Rattle.json.specs.Lex.{tokens}
use Rattle.serde_json.specs.Read.{max_depth}

-- the value that a text is, in which an object has its members as the text has them, a repeated one too
abbrev pub tree_of : List ℕ → Option Json
tree_of text = option_and_then (λ p. if_last p.0 p.1) (value max_depth (tokens text))

-- the names of members, in their order
abbrev pub names_of : Members → List (List ℕ)
names_of no_members = []
names_of (member name j ms) = name ∷ names_of ms

-- the name is one of these
abbrev pub is_among : List (List ℕ) → List ℕ → Bool
is_among names name = list_any (λ other. bytes_eq other name) names

-- the first name in a value that an earlier member of its object has, by the order of the text
abbrev mutual
  pub first_repeated : Json → Option (List ℕ)
  first_repeated null = None
  first_repeated (boolean b) = None
  first_repeated (number s) = None
  first_repeated (string s) = None
  first_repeated (array js) = repeated_in_items js
  first_repeated (object ms) = repeated_in_members (names_of ms) 0 ms

  pub repeated_in_items : Items → Option (List ℕ)
  repeated_in_items no_items = None
  repeated_in_items (item j js) = option_or (first_repeated j) (repeated_in_items js)

  -- in the members of an object from this place on, where all its members have these names
  pub repeated_in_members : List (List ℕ) → ℕ → Members → Option (List ℕ)
  repeated_in_members names place no_members = None
  repeated_in_members names place (member name j ms) =
      if is_among (take place names) name then Some name else option_or (first_repeated j) (repeated_in_members names (place + 1) ms)

-- the first repeated name of a text
abbrev pub repeated_name : List ℕ → Option (List ℕ)
repeated_name text = option_and_then first_repeated (tree_of text)
