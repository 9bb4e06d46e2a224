-- A name of a job is what its bytes say.
use Rattle.std.proofs.Common.{◌≡◌, ℕ, ◌≤◌, ◌↔◌, length, Bool, true, false, nat_le, List, Option, Some, None, IsSome, IfSome, IsUtf8, refl, sym, ap, ◌∙◌, arith}
use Rattle.std.proofs.lemmas.Bool.{true≢false}
use Rattle.std.proofs.lemmas.Bool.Decides.{nat_tests}
use Rattle.std.specs.Str.{is_utf8}
use Rattle.std.proofs.lemmas.Str.{IsUtf8-from_is_utf8, is_utf8-from_IsUtf8}
use Rattle.wire.specs.declared.job_name.TheConstants.{MOST_NAME_BYTES}
use Rattle.c_calls.specs.Jobs.{job_of}

abbrev is_short : List ℕ → Bool
is_short bytes = nat_le (length bytes) MOST_NAME_BYTES

short : (bytes text : List ℕ) → text ≡ bytes → length text ≤ MOST_NAME_BYTES → is_short bytes ≡ true
short bytes text same low =
    let e : length text ≡ length bytes = ap (λ (b : List ℕ). length b) same in
    let l : is_short bytes ≡ true = grind (arith, nat_tests) in l

long : (bytes text : List ℕ) → text ≡ bytes → (length text ≤ MOST_NAME_BYTES → ⊥) → (b : Bool) → is_short bytes ≡ b → is_short bytes ≡ false
long bytes text same high false e = e
long bytes text same high true e =
    let f : length text ≡ length bytes = ap (λ (b : List ℕ). length b) same in
    let l : length text ≤ MOST_NAME_BYTES = grind (arith, nat_tests) in absurd (high l)

pub named : (bytes text : List ℕ) (result : Option (List ℕ)) → text ≡ bytes → IsUtf8 bytes → (IsSome result ↔ (length text ≤ MOST_NAME_BYTES))
    → IfSome result (λ name. name ≡ text) → result ≡ job_of bytes
named bytes text (Some name) same utf8 low is =
    let u : is_utf8 bytes ≡ true = is_utf8-from_IsUtf8 bytes utf8 in
    let l : is_short bytes ≡ true = short bytes text same (low.0 refl) in
    rw (u, l) (ap (λ (b : List ℕ). Some b) (is ∙ same))
named bytes text None same utf8 low is =
    let u : is_utf8 bytes ≡ true = is_utf8-from_IsUtf8 bytes utf8 in
    let l : is_short bytes ≡ false = long bytes text same (λ t. true≢false (sym (low.1 t))) (is_short bytes) refl in
    rw (u, l) refl

-- bytes that are not UTF-8 are no name
not_utf8 : (bytes : List ℕ) → (IsUtf8 bytes → ⊥) → (b : Bool) → is_utf8 bytes ≡ b → is_utf8 bytes ≡ false
not_utf8 bytes other false e = e
not_utf8 bytes other true e = absurd (other (IsUtf8-from_is_utf8 bytes e))

pub unnamed : (bytes : List ℕ) → (IsUtf8 bytes → ⊥) → None ≡ job_of bytes
unnamed bytes other = let u : is_utf8 bytes ≡ false = not_utf8 bytes other (is_utf8 bytes) refl in rw u refl
