-- The text of a number is read as the number, and no other text is.
use Rattle.std.proofs.Common.{◌≡◌, ℕ, ◌^◌, ◌<◌, ◌&&◌, Bool, true, false, List, Ok, Err, refl, sym, decimal, bytes_eq, nat_lt}
use Rattle.std.proofs.lemmas.Bool.{lt-ltb, ltb-true}
use Rattle.std.proofs.lemmas.Fmt.{decimal_is_IsNumeral}
use Rattle.std.proofs.lemmas.Slice.Eq.{bytes_eq-Decides}
use Rattle.std.specs.Str.Parse.{digits_value}
use Rattle.program_io.specs.Reading.{◌>>◌, check}
use Rattle.program_io.specs.Members.{wrong}
use Rattle.wire.specs.Numerals.{number_in_digits}

pub bytes_themselves : (text : List ℕ) → bytes_eq text text ≡ true
bytes_themselves text = (bytes_eq-Decides text text).1 refl

pub digits_read : (n : ℕ) → n < 2 ^ 64 → number_in_digits (decimal n) ≡ Ok n
unfolding number_in_digits
digits_read n small = rw ((decimal_is_IsNumeral n small).1, lt-ltb n (2 ^ 64) small, bytes_themselves (decimal n)) refl

both : (a b : Bool) → a && b ≡ true → (a ≡ true) × (b ≡ true)
both true b e = (refl, e)
both false b e = absurd (cc)

refused : (b : Bool) (n : ℕ) → (b ≡ true → ⊥) → check b wrong >> Ok n ≡ Err wrong
refused true n never = absurd (never refl)
refused false n never = refl

pub no_digits : (text : List ℕ) → ((n : ℕ) → n < 2 ^ 64 → text ≡ decimal n → ⊥) → number_in_digits text ≡ Err wrong
unfolding number_in_digits
no_digits text none =
    refused (nat_lt (digits_value 10 text) (2 ^ 64) && bytes_eq (decimal (digits_value 10 text)) text) (digits_value 10 text) (λ test.
    let tests = both _ _ test in
    none (digits_value 10 text) (ltb-true _ _ tests.0) (sym ((bytes_eq-Decides _ _).0 tests.1)))
