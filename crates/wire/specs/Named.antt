-- Readers of objects, each by the name that the object's member `do` or `reply` has.
use Rattle.std.specs.Prelude.{◌≡◌, ℕ, List, [], ◌∷◌, Result, Err, Option, Some, None, if◌then◌else◌}
use Rattle.std.specs.Str.{bytes_eq}
use Rattle.serde_json.specs.Data.{Data}
use Rattle.wire.specs.declared.fault.DecodeError.{DecodeError}
use Rattle.wire.specs.declared.fault.DecodeRefusal.{DecodeRefusal}
use Rattle.wire.specs.declared.fault.DecodeRefusal.TheVariants.{WrongForm}
use Rattle.wire.specs.Refusals.{Gives}

-- the reader of this name, if there is one
abbrev pub reader_of : {A : Type 0} → List (List ℕ × (Data → Result A DecodeRefusal)) → List ℕ → Option (Data → Result A DecodeRefusal)
reader_of [] name = None
reader_of (kind ∷ kinds) name = if bytes_eq name kind.0 then Some kind.1 else reader_of kinds name

abbrev pub read_by : {A : Type 0} → Option (Data → Result A DecodeRefusal) → Data → Result A DecodeRefusal
read_by None d = Err WrongForm
read_by (Some read) d = read d

-- what the reader of this name makes of the object; a name without one is wrong
abbrev pub read_named : {A : Type 0} → List (List ℕ × (Data → Result A DecodeRefusal)) → List ℕ → Data → Result A DecodeRefusal
read_named kinds name d = read_by (reader_of kinds name) d

-- what a function returned is what a reader makes of the object, and nothing if there is no reader
abbrev pub GivesBy : {A : Type 0} → Option (Data → Result A DecodeRefusal) → Data → Option (Result A DecodeError) → Type 0
GivesBy read d None = read ≡ None
GivesBy read d (Some result) = (reader : _) × (read ≡ Some reader) × Gives result (reader d)
