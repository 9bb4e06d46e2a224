-- Lines of a text, each of which is a message of a value.
use Rattle.std.specs.Prelude.{◌≡◌, ◌⊎◌, ℕ, ◌+◌, ◌<◌, ◌==◌, Bool, true, false, List, [], ◌∷◌, ◌++◌, length, Option, Some, None, option_map, Result, if◌then◌else◌}
use Rattle.std.specs.List.{flat_map, AllByRecursion}
use Rattle.serde_json.specs.Data.{Data}
use Rattle.wire.specs.declared.fault.DecodeRefusal.{DecodeRefusal}
use Rattle.wire.specs.declared.numerals.Numerals.{Numerals}
use Rattle.wire.specs.declared.numerals.Numerals.TheVariants.{Quoted}
use Rattle.wire.specs.Messages.{IsMessage, IsRefusedFor, IsShort, message_text}
use Rattle.snapshot_text.specs.declared.error.SnapshotError.{SnapshotError}
use Rattle.snapshot_text.specs.declared.error.SnapshotError.TheVariants.{Line, Short, Long, Memory}

-- THE LINES OF A TEXT

-- a place in a text: how many lines stand before it, and the text after it
pub record Place : Type 0 where
  pub number : ℕ
  pub rest : List ℕ

abbrev pub place : ℕ → List ℕ → Place
place number rest = record { number = number; rest = rest }

-- the bytes before the first end of a line, and those after it
abbrev pub first_line : List ℕ → Option (List ℕ × List ℕ)
first_line [] = None
first_line (byte ∷ bytes) = if byte == 10 then Some ([], bytes) else option_map (λ cut. (byte ∷ cut.0, cut.1)) (first_line bytes)

-- the line at a place, without its end, and the place after it
abbrev pub line_at : Place → Option (List ℕ × Place)
line_at at = option_map (λ cut. (cut.0, place (at.number + 1) cut.1)) (first_line at.rest)

-- the line was taken, or there is none
abbrev pub IsTaken : Place → Option (List ℕ) → Place → Type 0
IsTaken at (Some line) after = line_at at ≡ Some (line, after)
IsTaken at None after = (line_at at ≡ None) × (after ≡ at)

abbrev pub is_empty : List ℕ → Bool
is_empty [] = true
is_empty (byte ∷ bytes) = false

-- VALUES AS LINES

-- how values of a type are written and read in messages, and the name of the type
pub record Form (A : Type 0) : Type 0 where
  pub name : List ℕ
  pub data_of : Numerals → A → Data
  pub read : Numerals → Data → Result A DecodeRefusal

abbrev pub form_of : {A : Type 0} → List ℕ → (Numerals → A → Data) → (Numerals → Data → Result A DecodeRefusal) → Form A
form_of name data_of read = record { name = name; data_of = data_of; read = read }

-- the message of a value
abbrev pub message : {A : Type 0} → List ℕ → Form A → A → List ℕ
message job form x = message_text job form.name (form.data_of Quoted x)

-- the message of a value, and the end of its line
abbrev pub line_of : {A : Type 0} → List ℕ → Form A → A → List ℕ
line_of job form x = message job form x ++ 10 ∷ []

-- each of the values as a line
abbrev pub lines_of : {A : Type 0} → List ℕ → Form A → List A → List ℕ
lines_of job form xs = flat_map (line_of job form) xs

-- the message of the value is read as the value
abbrev pub IsReadBack : {A : Type 0} → List ℕ → Form A → A → Type 0
IsReadBack job form x = IsMessage job form.name form.read (message job form x) x

abbrev pub AreReadBack : {A : Type 0} → List ℕ → Form A → List A → Type 0
AreReadBack job form xs = AllByRecursion (IsReadBack job form) xs

-- READING

-- the line at a place is a message of this value, and this is the place after it
pub record IsNext {A : Type 0} (job : List ℕ) (form : Form A) (at : Place) (x : A) (after : Place) : Type 0 where
  pub line : List ℕ
  pub here : line_at at ≡ Some (line, after)
  pub says : IsMessage job form.name form.read line x

-- one after another stand what says each of the values
abbrev pub Each : {A : Type 0} → (Place → A → Place → Type 0) → Place → List A → Place → Type 0
Each Says at [] after = after ≡ at
Each Says at (x ∷ xs) after = (middle : Place) × Says at x middle × Each Says middle xs after

-- the next so many values
abbrev pub Many : {A : Type 0} → (Place → A → Place → Type 0) → ℕ → Place → List A → Place → Type 0
Many Says count at xs after = (length xs ≡ count) × Each Says at xs after

abbrev pub AreNext : {A : Type 0} → List ℕ → Form A → ℕ → Place → List A → Place → Type 0
AreNext job form = Many (IsNext job form)

-- THE FIRST LINE THAT IS NOT THE PART THAT IS DUE

-- the line at a place is no message of this form, for this reason
pub record IsBadLine {A : Type 0} (job : List ℕ) (form : Form A) (at : Place) (why : DecodeRefusal) : Type 0 where
  pub line : List ℕ
  pub after : Place
  pub here : line_at at ≡ Some (line, after)
  pub refused : IsRefusedFor job form.name form.read line why

-- the line at a place is there, and is not too long to be read
pub record HasLine (at : Place) : Type 0 where
  pub line : List ℕ
  pub after : Place
  pub here : line_at at ≡ Some (line, after)
  pub short : IsShort line

-- no value of this form is next: its line is refused, or there is none, or it is there and memory ran out
abbrev pub IsNot : {A : Type 0} → List ℕ → Form A → Place → SnapshotError → Type 0
IsNot job form at (Line number why) = (number ≡ at.number + 1) × IsBadLine job form at why
IsNot job form at Short = line_at at ≡ None
IsNot job form at Long = ⊥
IsNot job form at Memory = HasLine at

-- of the next so many values some are there, and then one is not
pub record Fewer {A : Type 0} (Says : Place → A → Place → Type 0) (Fails : Place → SnapshotError → Type 0) (count : ℕ) (at : Place) (e : SnapshotError)
    : Type 0 where
  pub first : List A
  pub after : Place
  pub fewer : length first < count
  pub says : Each Says at first after
  pub fails : Fails after e

abbrev pub AreNot : {A : Type 0} → List ℕ → Form A → ℕ → Place → SnapshotError → Type 0
AreNot job form = Fewer (IsNext job form) (IsNot job form)

-- the first part is not there, or it is, and what is due after it is not
abbrev pub Then : {A : Type 0} → (Place → A → Place → Type 0) → (Place → SnapshotError → Type 0) → (A → Place → SnapshotError → Type 0)
    → Place → SnapshotError → Type 0
Then Says Fails Rest at e = Fails at e ⊎ ((x : _) × (after : Place) × Says at x after × Rest x after e)
