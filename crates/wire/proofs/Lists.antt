-- What is written of lists is read as the lists, and has no fractions, few levels and no member twice.
use Rattle.std.proofs.Common.{◌≡◌, ℕ, suc, ◌≤◌, false, List, [], ◌∷◌, map, None, Result, Ok, refl, arith}
use Rattle.std.specs.Bool.{⊤}
use Rattle.std.specs.List.{AllByRecursion}
use Rattle.serde_json.specs.Data.{Data, depth, items_depth}
use Rattle.serde_json.specs.View.{items_of}
use Rattle.serde_json.specs.Written.{has_float, items_have_float, items_outline, outline}
use Rattle.program_io.specs.declared.fault.WrongForm.{WrongForm}
use Rattle.program_io.specs.Reading.{in_turn}
use Rattle.program_io.specs.Members.{list_of}
use Rattle.program_io.specs.Repeated.{first_repeated, repeated_in_items}
use Rattle.program_io.proofs.Forms.{elements_items}
use Rattle.wire.specs.Objects.{list_data}

in_turn_read : {A : Type 0} (form : Data → Result A WrongForm) (write : A → Data) (P : A → Type 0) → ((x : A) → P x → form (write x) ≡ Ok x) → (n : ℕ) (xs : List A) → AllByRecursion P xs
    → in_turn (λ _ d. form d) n (map write xs) ≡ Ok xs
in_turn_read form write P each n [] all = refl
in_turn_read form write P each n (x ∷ xs) all = rw (each x all.0, in_turn_read form write P each (suc n) xs all.1) refl

-- a list whose elements have what it takes to read them
pub list_read : {A : Type 0} (form : Data → Result A WrongForm) (write : A → Data) (P : A → Type 0) → ((x : A) → P x → form (write x) ≡ Ok x) → (xs : List A) → AllByRecursion P xs
    → list_of form (list_data write xs) ≡ Ok xs
unfolding list_of
list_read form write P each xs all = rw (elements_items (map write xs)) (in_turn_read form write P each 0 xs all)

all_are : {A : Type 0} (xs : List A) → AllByRecursion (λ _. ⊤) xs
all_are [] = tt
all_are (x ∷ xs) = (tt, all_are xs)

-- a list of whatever elements
pub any_list_read : {A : Type 0} (form : Data → Result A WrongForm) (write : A → Data) → ((x : A) → form (write x) ≡ Ok x) → (xs : List A) → list_of form (list_data write xs) ≡ Ok xs
any_list_read form write each xs = list_read form write (λ _. ⊤) (λ x _. each x) xs (all_are xs)

pub items_whole : {A : Type 0} (write : A → Data) → ((x : A) → has_float (write x) ≡ false) → (xs : List A) → items_have_float (items_of (map write xs)) ≡ false
items_whole write each [] = refl
items_whole write each (x ∷ xs) = rw (each x) (items_whole write each xs)

pub items_shallow : {A : Type 0} (write : A → Data) (n : ℕ) → ((x : A) → depth (write x) ≤ n) → (xs : List A) → items_depth (items_of (map write xs)) ≤ n
items_shallow write n each [] = omega arith
items_shallow write n each (x ∷ xs) = omega (arith, each x, items_shallow write n each xs)

pub items_once : {A : Type 0} (write : A → Data) → ((x : A) → first_repeated (outline (write x)) ≡ None) → (xs : List A) → repeated_in_items (items_outline (items_of (map write xs))) ≡ None
items_once write each [] = refl
items_once write each (x ∷ xs) = rw (each x) (items_once write each xs)
