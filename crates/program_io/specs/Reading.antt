-- Reading in turn: a value, or the first fault.
use Rattle.std.specs.Prelude.{◌≡◌, ℕ, suc, List, [], ◌∷◌, ⊤, Bool, Result, Ok, Err, if◌then◌else◌}
use Rattle.program_io.specs.declared.fault.WrongForm.{WrongForm}
use Rattle.program_io.specs.declared.fault.Unread.{Unread}
use Rattle.program_io.specs.declared.fault.Unread.TheVariants as unread

-- what the second reads from the value of the first, or the fault of the first
infixl 10 ◌>>=◌
abbrev pub ◌>>=◌ : {E A B : Type 0} → Result A E → (A → Result B E) → Result B E
(Ok x) >>= f = f x
(Err e) >>= f = Err e

-- the second, or the fault of the first
infixl 10 ◌>>◌
abbrev pub ◌>>◌ : {E A B : Type 0} → Result A E → Result B E → Result B E
(Ok x) >> r = r
(Err e) >> r = Err e

-- what is read first, or else what is read second
abbrev pub or_else : {E A : Type 0} → Result A E → Result A E → Result A E
or_else (Ok x) r = Ok x
or_else (Err e) r = r

-- the fault, unless the test holds
abbrev pub check : {E : Type 0} → Bool → E → Result ⊤ E
check b e = if b then Ok tt else Err e

-- one value after another, each by its place, or the fault of the first that has one
abbrev pub in_turn : {A B E : Type 0} → (ℕ → A → Result B E) → ℕ → List A → Result (List B) E
in_turn f n [] = Ok []
in_turn f n (x ∷ xs) = f n x >>= λ y. in_turn f (suc n) xs >>= λ ys. Ok (y ∷ ys)

-- what a function that failed says of what is read: nothing, where memory ran out
abbrev pub FailsAs : {A : Type 0} → Unread → Result A WrongForm → Type 0
FailsAs unread.WrongForm read = read ≡ Err (record {})
FailsAs unread.Memory read = ⊤

-- what a function returned is what is read, unless memory ran out
abbrev pub Gives : {A : Type 0} → Result A Unread → Result A WrongForm → Type 0
Gives (Ok x) read = read ≡ Ok x
Gives (Err e) read = FailsAs e read
