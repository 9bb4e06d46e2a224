-- A call of logs whose caller was told other words than the machines answer.
use Rattle.std.specs.Prelude.{ℕ, List, [], ◌∷◌, codes}
use Rattle.serde_json.specs.Data.{Data, Members, object, put, string}
use Rattle.wire.specs.Objects.{object_data}

-- an object with these members, under a name
abbrev pub named_data : List ℕ → Members → Data
named_data name members = object_data ((name, object members) ∷ [])

-- the members of the call, its reply and its reason, with the words that its caller was told
abbrev pub told_members : List ℕ → Members → Members
told_members told members = put (codes "told") (string told) members

abbrev pub fault_data : List ℕ → Members → Data
fault_data told members = named_data (codes "fault") (told_members told members)
