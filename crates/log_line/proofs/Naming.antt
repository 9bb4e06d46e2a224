-- The reader of a name in lists of readers.
use Rattle.std.proofs.Common.{◌≡◌, ◌∙◌, ◌∷◌, [], ℕ, Bool, true, false, List, Result, Option, Some, option_map, refl, ap}
use Rattle.std.specs.Prelude.{if◌then◌else◌}
use Rattle.std.specs.Str.{bytes_eq}
use Rattle.serde_json.specs.Data.{Data}
use Rattle.wire.specs.declared.fault.DecodeRefusal.{DecodeRefusal}
use Rattle.wire.specs.declared.fault.DecodeError.{DecodeError}
use Rattle.wire.specs.Named.{GivesBy, reader_of}
use Rattle.wire.specs.Refusals.{Gives}
use Rattle.log_line.specs.declared.line.LoggedCall.{LoggedCall}
use Rattle.log_line.specs.MessageCalls.{as_lines}

map_if : {X Y : Type 0} (f : X → Y) (here : Bool) (x : X) (rest : Option X) → (if here then Some (f x) else option_map f rest) ≡ option_map f (if here then Some x else rest)
map_if f true x rest = refl
map_if f false x rest = refl

-- the readers of a list as readers of lines
pub reader_as_line : {A : Type 0} (line : (Data → Result A DecodeRefusal) → Data → Result LoggedCall DecodeRefusal) (kinds : List (List ℕ × (Data → Result A DecodeRefusal))) (name : List ℕ)
    → reader_of (as_lines line kinds) name ≡ option_map line (reader_of kinds name)
reader_as_line line [] name = refl
reader_as_line line (kind ∷ kinds) name = rw (reader_as_line line kinds name) (map_if line (bytes_eq name kind.0) kind.1 (reader_of kinds name))

-- what is made of what a reader gave is what its reader of lines makes
pub line_given : {A : Type 0} (line : (Data → Result A DecodeRefusal) → Data → Result LoggedCall DecodeRefusal) (kinds : List (List ℕ × (Data → Result A DecodeRefusal))) (name : List ℕ) (d : Data)
    (call : Result A DecodeError) (result : Result LoggedCall DecodeError) → GivesBy (reader_of kinds name) d (Some call)
    → ((read : Data → Result A DecodeRefusal) → Gives call (read d) → Gives result (line read d)) → GivesBy (reader_of (as_lines line kinds) name) d (Some result)
line_given line kinds name d call result given made =
    (line given.0, reader_as_line line kinds name ∙ ap (option_map line) given.1, made given.0 given.2)
