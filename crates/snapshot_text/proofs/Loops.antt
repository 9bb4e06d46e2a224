-- One part more.
use Rattle.std.proofs.Common.{◌≡◌, ◌∙◌, ℕ, ◌+◌, ◌<◌, List, [], ◌∷◌, ◌++◌, length, take, get_or, inl, inr, refl, sym, ap, arith, length-append}
use Rattle.std.specs.List.{flat_map, AllByRecursion}
use Rattle.std.proofs.lemmas.List.{take_more, flat_map_more}
use Rattle.snapshot_text.specs.declared.error.SnapshotError.{SnapshotError}
use Rattle.snapshot_text.specs.Lines.{Place, Form, IsNext, AreNext, Each, IsNot, AreNot, Fewer, Then}
use Rattle.snapshot_text.specs.Texts.{AreTasks, AreNoTasks, Due}
use Rattle.job_calls.specs.declared.snapshot.TaskSnapshot.{TaskSnapshot}

taken : {A : Type 0} (xs : List A) (i : ℕ) (x : A) → i < length xs → x ≡ get_or xs i x → take (i + 1) xs ≡ take i xs ++ x ∷ []
taken xs i x below is = take_more xs i x below ∙ ap (λ y. take i xs ++ y ∷ []) (sym is)

pub text_more : {A : Type 0} (write : A → List ℕ) (xs : List A) (i : ℕ) (x : A) (before now after : List ℕ) → i < length xs → x ≡ get_or xs i x
    → now ≡ before ++ flat_map write (take i xs) → after ≡ now ++ write x → after ≡ before ++ flat_map write (take (i + 1) xs)
text_more write xs i x before now after below is so_far more =
    more ∙ ap (λ text. text ++ write x) so_far ∙ flat_map_more write before (take i xs) x ∙ ap (λ ys. before ++ flat_map write ys) (sym (taken xs i x below is))

all_push : {A : Type 0} (Good : A → Type 0) (xs : List A) (x : A) → AllByRecursion Good xs → Good x → AllByRecursion Good (xs ++ x ∷ [])
all_push Good [] x all good = (good, tt)
all_push Good (y ∷ xs) x all good = (all.0, all_push Good xs x all.1 good)

pub all_more : {A : Type 0} (Good : A → Type 0) (xs : List A) (i : ℕ) (x : A) → i < length xs → x ≡ get_or xs i x → AllByRecursion Good (take i xs) → Good x → AllByRecursion Good (take (i + 1) xs)
all_more Good xs i x below is all good = rw (taken xs i x below is) (all_push Good (take i xs) x all good)

pub each_more : {A : Type 0} (Says : Place → A → Place → Type 0) (xs : List A) (x : A) (at middle after : Place) → Each Says at xs middle → Says middle x after → Each Says at (xs ++ x ∷ []) after
each_more Says [] x at middle after all says = (after, rw (sym all) says, refl)
each_more Says (y ∷ xs) x at middle after all says = (all.0, all.1, each_more Says xs x all.0 middle after all.2 says)

pub one_more : {A : Type 0} (xs : List A) (x : A) (n : ℕ) → length xs ≡ n → length (xs ++ x ∷ []) ≡ n + 1
one_more xs x n long = omega (arith, length-append xs (x ∷ []))

-- the next part is not there
pub fewer_fails : {A : Type 0} (Says : Place → A → Place → Type 0) (Fails : Place → SnapshotError → Type 0) (count : ℕ) (xs : List A) (at after : Place) (e : SnapshotError)
    → length xs < count → Each Says at xs after → Fails after e → Fewer Says Fails count at e
fewer_fails Says Fails count xs at after e fewer says fails = record { first = xs; after = after; fewer = fewer; says = says; fails = fails }

-- the first part is not there
pub first_fails : {A : Type 0} (Says : Place → A → Place → Type 0) (Fails : Place → SnapshotError → Type 0) (Rest : A → Place → SnapshotError → Type 0) (at : Place) (e : SnapshotError)
    → Fails at e → Then Says Fails Rest at e
first_fails Says Fails Rest at e fails = inl fails

-- it is there, and then a later one is not
pub later_fails : {A : Type 0} (Says : Place → A → Place → Type 0) (Fails : Place → SnapshotError → Type 0) (Rest : A → Place → SnapshotError → Type 0) (at : Place) (x : A) (after : Place) (e : SnapshotError)
    → Says at x after → Rest x after e → Then Says Fails Rest at e
later_fails Says Fails Rest at x after e says fails = inr (x, after, says, fails)

-- a line is there, and then a later one is not
pub after_line : {A : Type 0} (job : List ℕ) (form : Form A) (Rest : A → Place → SnapshotError → Type 0) (at : Place) (x : A) (after : Place) (e : SnapshotError)
    → IsNext job form at x after → Rest x after e → Then (IsNext job form) (IsNot job form) Rest at e
after_line job form = later_fails (IsNext job form) (IsNot job form)

-- so many lines are there, and then a later one is not
pub after_lines : {A : Type 0} (job : List ℕ) (form : Form A) (count : ℕ) (Rest : Place → SnapshotError → Type 0) (at : Place) (xs : List A) (after : Place) (e : SnapshotError)
    → AreNext job form count at xs after → Rest after e → Due job form count Rest at e
after_lines job form count Rest = later_fails (AreNext job form count) (AreNot job form count) (λ _. Rest)

pub no_lines : {A : Type 0} (job : List ℕ) (form : Form A) (count : ℕ) (Rest : Place → SnapshotError → Type 0) (at : Place) (e : SnapshotError)
    → AreNot job form count at e → Due job form count Rest at e
no_lines job form count Rest = first_fails (AreNext job form count) (AreNot job form count) (λ _. Rest)

-- so many tasks are there, and then a later line is not
pub after_tasks : (job : List ℕ) (count : ℕ) (Rest : Place → SnapshotError → Type 0) (at : Place) (xs : List TaskSnapshot) (after : Place) (e : SnapshotError)
    → AreTasks job count at xs after → Rest after e → Then (AreTasks job count) (AreNoTasks job count) (λ _. Rest) at e
after_tasks job count Rest = later_fails (AreTasks job count) (AreNoTasks job count) (λ _. Rest)

pub no_tasks : (job : List ℕ) (count : ℕ) (Rest : Place → SnapshotError → Type 0) (at : Place) (e : SnapshotError)
    → AreNoTasks job count at e → Then (AreTasks job count) (AreNoTasks job count) (λ _. Rest) at e
no_tasks job count Rest = first_fails (AreTasks job count) (AreNoTasks job count) (λ _. Rest)
