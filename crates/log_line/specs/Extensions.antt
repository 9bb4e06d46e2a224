-- Members of a line that are the service's own.
use Rattle.std.specs.Prelude.{ℕ, Bool, false, List, [], ◌∷◌, ◌==◌, if◌then◌else◌}
use Rattle.serde_json.specs.Data.{Data, null, boolean, number, string, array, object, Members, no_members, member}

-- the name of an extension begins with `_`
abbrev pub is_extension : List ℕ → Bool
is_extension [] = false
is_extension (first ∷ rest) = first == 95

-- the members that are no extensions
abbrev pub members_without_extensions : Members → Members
members_without_extensions no_members = no_members
members_without_extensions (member name value members) =
    if is_extension name then members_without_extensions members else member name value (members_without_extensions members)

-- an object without its extensions, and any other value as it is
abbrev pub without_extensions : Data → Data
without_extensions (object members) = object (members_without_extensions members)
without_extensions null = null
without_extensions (boolean b) = boolean b
without_extensions (number n) = number n
without_extensions (string s) = string s
without_extensions (array items) = array items
