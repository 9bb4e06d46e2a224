-- Members that not each object has.
use Rattle.std.specs.Prelude.{ℕ, List, [], ◌∷◌, Option, Some, None}
use Rattle.serde_json.specs.Data.{Data}

-- a member of this name, where there is a value
abbrev pub if_there : List ℕ → Option Data → List (List ℕ × Data)
if_there name None = []
if_there name (Some value) = (name, value) ∷ []
