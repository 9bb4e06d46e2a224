-- Reading one value after another, as a loop over a slice does.
use Rattle.std.proofs.Common.{◌≡◌, ℕ, suc, ◌+◌, ◌≤◌, ◌<◌, List, [], ◌∷◌, ◌++◌, map, length, drop, get_or, Result, Ok, Err, refl, sym, ap, ◌∙◌, append_assoc, arith, add-one, drop-cons}
use Rattle.std.proofs.lemmas.List.{append-nil, drop_all}
use Rattle.program_io.specs.declared.fault.WrongForm.{WrongForm}
use Rattle.program_io.specs.declared.fault.Unread.{Unread}
use Rattle.program_io.specs.declared.fault.Unread.TheVariants as unread
use Rattle.program_io.specs.Reading.{◌>>=◌, in_turn, FailsAs}
use Rattle.program_io.specs.Members.{wrong}

-- what was read before, and what is still read
abbrev pub with_front : {B E : Type 0} → List B → Result (List B) E → Result (List B) E
with_front front read = read >>= λ ys. Ok (front ++ ys)

pub starts : {B E : Type 0} (r : Result (List B) E) → with_front [] r ≡ r
starts (Ok ys) = refl
starts (Err e) = refl

regroup : {B E : Type 0} (front : List B) (y : B) (r : Result (List B) E) → with_front front (r >>= λ ys. Ok (y ∷ ys)) ≡ with_front (front ++ y ∷ []) r
regroup front y (Ok ys) = ap Ok (simp append_assoc)
regroup front y (Err e) = refl

-- the element at k stands first of what is left
opened : {V A B E : Type 0} (v : V → A) (f : ℕ → A → Result B E) (n k : ℕ) (xs : List V) (x : V) → k < length xs → x ≡ get_or xs k x
    → in_turn f (n + k) (map v (drop k xs)) ≡ (f (n + k) (v x) >>= λ y. in_turn f (n + (k + 1)) (map v (drop (k + 1) xs)) >>= λ ys. Ok (y ∷ ys))
opened v f n k xs x lt is =
    let first : drop k xs ≡ x ∷ drop (k + 1) xs = rw (add-one, drop-cons xs k x, ← is) refl in
    let next : n + (k + 1) ≡ suc (n + k) = omega arith in
    rw (first, next) refl

pub goes_on : {V A B E : Type 0} (v : V → A) (f : ℕ → A → Result B E) (n k : ℕ) (xs : List V) (x : V) (y : B) (front : List B) (total : Result (List B) E) → k < length xs → x ≡ get_or xs k x → f (n + k) (v x) ≡ Ok y
    → with_front front (in_turn f (n + k) (map v (drop k xs))) ≡ total → with_front (front ++ y ∷ []) (in_turn f (n + (k + 1)) (map v (drop (k + 1) xs))) ≡ total
goes_on v f n k xs x y front total lt is read so_far =
    let one : with_front front (in_turn f (n + k) (map v (drop k xs))) ≡ with_front (front ++ y ∷ []) (in_turn f (n + (k + 1)) (map v (drop (k + 1) xs))) = rw (opened v f n k xs x lt is, read) (regroup front y (in_turn f (n + (k + 1)) (map v (drop (k + 1) xs)))) in
    sym one ∙ so_far

pub ends : {V A B E : Type 0} (v : V → A) (f : ℕ → A → Result B E) (n k : ℕ) (xs : List V) (x : V) (e : E) (front : List B) (total : Result (List B) E) → k < length xs → x ≡ get_or xs k x → f (n + k) (v x) ≡ Err e
    → with_front front (in_turn f (n + k) (map v (drop k xs))) ≡ total → total ≡ Err e
ends v f n k xs x e front total lt is read so_far =
    let one : with_front front (in_turn f (n + k) (map v (drop k xs))) ≡ Err e = rw (opened v f n k xs x lt is, read) refl in
    sym so_far ∙ one

pub is_done : {V A B E : Type 0} (v : V → A) (f : ℕ → A → Result B E) (n k : ℕ) (xs : List V) (front : List B) (total : Result (List B) E) → length xs ≤ k
    → with_front front (in_turn f (n + k) (map v (drop k xs))) ≡ total → total ≡ Ok front
is_done v f n k xs front total le so_far =
    let none : drop k xs ≡ [] = drop_all k xs le in
    let one : with_front front (in_turn f (n + k) (map v (drop k xs))) ≡ Ok front = rw none (ap Ok (append-nil front)) in
    sym so_far ∙ one

pub ends_as : {V A B : Type 0} (v : V → A) (f : ℕ → A → Result B WrongForm) (n k : ℕ) (xs : List V) (x : V) (e : Unread) (front : List B) (total : Result (List B) WrongForm) → k < length xs → x ≡ get_or xs k x → FailsAs e (f (n + k) (v x))
    → with_front front (in_turn f (n + k) (map v (drop k xs))) ≡ total → FailsAs e total
ends_as v f n k xs x unread.WrongForm front total lt is read so_far = ends v f n k xs x wrong front total lt is read so_far
ends_as v f n k xs x unread.Memory front total lt is read so_far = tt
