-- Known bytes that grow and go, part after part.
use Rattle.std.proofs.Common.{◌≡◌, ◌∙◌, ◌+◌, ℕ, Bool, true, false, nat_eq, List, [], ◌∷◌, ◌++◌, Option, Some, None, length, take, refl, sym, ap, append_assoc, append-nil, zero-add, suc, arith}
use Rattle.std.proofs.lemmas.Bool.Decides.{nat_tests}
use Rattle.std.specs.Io.KnownBytes.{Consumes, Appends}

pub consumes_more : (a b c : Option (List ℕ)) (xs ys : List ℕ) → Consumes a b xs → Consumes b c ys → Consumes a c (xs ++ ys)
consumes_more None b c xs ys p q = tt
consumes_more (Some x) None c xs ys p q = absurd p
consumes_more (Some x) (Some y) None xs ys p q = absurd q
consumes_more (Some x) (Some y) (Some z) xs ys p q = p ∙ ap (λ l. xs ++ l) q ∙ sym (append_assoc xs ys z)

pub appends_more : (a b c : Option (List ℕ)) (xs ys : List ℕ) → Appends a b xs → Appends b c ys → Appends a c (xs ++ ys)
appends_more None b c xs ys p q = tt
appends_more (Some x) None c xs ys p q = absurd p
appends_more (Some x) (Some y) None xs ys p q = absurd q
appends_more (Some x) (Some y) (Some z) xs ys p q = q ∙ ap (λ l. l ++ ys) p ∙ append_assoc x xs ys

pub appends_none : (a : Option (List ℕ)) → Appends a a []
appends_none None = tt
appends_none (Some x) = sym (append-nil x)

pub consumes_none : (a : Option (List ℕ)) → Consumes a a []
consumes_none None = tt
consumes_none (Some x) = refl

-- what is taken of the text before and of a first part of what follows
pub takes_more : (xs ys : List ℕ) (n : ℕ) → xs ++ take n ys ≡ take (length xs + n) (xs ++ ys)
takes_more [] ys n = rw (zero-add n) refl
takes_more (x ∷ xs) ys n =
    let e : suc (length xs) + n ≡ suc (length xs + n) = omega arith in
    rw e (ap (λ l. x ∷ l) (takes_more xs ys n))

-- no byte, where none is counted
pub no_bytes : (xs : List ℕ) (len : ℕ) (empty : Bool) → len ≡ length xs → empty ≡ nat_eq len 0 → empty ≡ true → xs ≡ []
no_bytes [] len empty many is said = refl
no_bytes (x ∷ xs) len empty many is said =
    let test : nat_eq len 0 ≡ true = sym is ∙ said in
    let zero : len ≡ 0 = grind (arith, nat_tests) in
    absurd (omega (arith, many, zero))

-- some bytes, where not none is counted
pub some_bytes : (xs : List ℕ) (len : ℕ) (empty : Bool) → len ≡ length xs → empty ≡ nat_eq len 0 → empty ≡ false → xs ≡ [] → ⊥
some_bytes [] len empty many is said none = let no : true ≡ false = (ap (λ n. nat_eq n 0) (sym many) ∙ sym is) ∙ said in absurd (cc)
some_bytes (x ∷ xs) len empty many is said none = absurd (cc)
