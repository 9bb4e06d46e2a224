-- What a JSON value says: each word is what is read of it, or that it has not the form that is wanted.
use Rattle.std.specs.Prelude.{◌≡◌, ℕ, ◌==◌, ◌&&◌, Bool, List, [], ◌∷◌, length, ⊤, Result, Ok, Err, nat_le, is_some, option_and_then, option_map}
use Rattle.std.specs.List.{list_all}
use Rattle.std.specs.Option.{ok_or}
use Rattle.serde_json.specs.Data.{Data, Items, no_items, item}
use Rattle.serde_json.specs.Events.{members_len}
use Rattle.serde_json.specs.Find.{get, as_bool, as_number, as_u64, as_str, as_array, as_object}
use Rattle.program_io.specs.declared.fault.WrongForm.{WrongForm}
use Rattle.program_io.specs.Reading.{◌>>=◌, ◌>>◌, check, in_turn}

-- the value has not the form that is wanted
abbrev pub wrong : WrongForm
wrong = record {}

-- what a function returned, seen by f, is what is read
abbrev pub IsRead : {X A : Type 0} → (X → A) → Result X WrongForm → Result A WrongForm → Type 0
IsRead f (Ok x) read = read ≡ Ok (f x)
IsRead f (Err e) read = read ≡ Err e

-- how many members an object has
abbrev pub count_of : Data → Result ℕ WrongForm
count_of d = ok_or (option_map members_len (as_object d)) wrong

-- an object has these members and no other; no name stands twice in the list
abbrev pub exactly : List (List ℕ) → Data → Result ⊤ WrongForm
exactly names d = do
  n ← count_of d
  check (n == length names && list_all (λ name. is_some (get name d)) names) wrong

-- the member of this name
abbrev pub member_at : List ℕ → Data → Result Data WrongForm
member_at name d = ok_or (get name d) wrong

-- a number below 2^64 that is written without sign, fraction or exponent
abbrev pub number_of : Data → Result ℕ WrongForm
number_of d = ok_or (option_and_then as_u64 (as_number d)) wrong

-- the member of this name, as a number
abbrev pub number_at : List ℕ → Data → Result ℕ WrongForm
number_at name d = member_at name d >>= number_of

-- the member of this name, as a number from low to high
abbrev pub number_in : ℕ → ℕ → List ℕ → Data → Result ℕ WrongForm
number_in low high name d = do
  n ← number_at name d
  check (nat_le low n && nat_le n high) wrong
  Ok n

-- the member of this name, as true or false
abbrev pub flag_at : List ℕ → Data → Result Bool WrongForm
flag_at name d = do
  v ← member_at name d
  ok_or (as_bool v) wrong

-- the member of this name, as the bytes of a text
abbrev pub text_at : List ℕ → Data → Result (List ℕ) WrongForm
text_at name d = do
  v ← member_at name d
  ok_or (as_str v) wrong

-- data items as a list
abbrev pub elements : Items → List Data
elements no_items = []
elements (item d ds) = d ∷ elements ds

-- the elements of an array
abbrev pub array_of : Data → Result (List Data) WrongForm
array_of d = do
  ds ← ok_or (as_array d) wrong
  Ok (elements ds)

-- the two, where there are two
abbrev pair_in : List Data → Result (Data × Data) WrongForm
pair_in (first ∷ second ∷ []) = Ok (first, second)
pair_in _ = Err wrong

-- the elements of an array of two
abbrev pub pair_of : Data → Result (Data × Data) WrongForm
pair_of d = array_of d >>= pair_in

-- two numbers, written as `[first, second]`
unfoldable pub two_numbers_of : Data → Result (ℕ × ℕ) WrongForm
two_numbers_of d = do
  pair ← pair_of d
  first ← number_of pair.0
  second ← number_of pair.1
  Ok (first, second)

-- the elements of an array, each of them read
unfoldable pub list_of : {A : Type 0} → (Data → Result A WrongForm) → Data → Result (List A) WrongForm
list_of read d = do
  ds ← array_of d
  in_turn (λ _ d. read d) 0 ds

-- the member of this name, as an array with each of its elements read
unfoldable pub list_at : {A : Type 0} → (Data → Result A WrongForm) → List ℕ → Data → Result (List A) WrongForm
list_at read name d = member_at name d >>= list_of read
