-- Where a search for the end of a line stops.
use Rattle.std.proofs.Common.{◌≡◌, ◌≢◌, ◌∙◌, ◌+◌, ◌-◌, ◌<◌, ◌≤◌, ℕ, List, All, get_or, get_or-take, length, take, refl, sym, arith}
use Rattle.std.specs.Prelude.{slice_index}
use Rattle.std.proofs.lemmas.Bool.Decides.{nat_tests}
use Rattle.std.proofs.lemmas.List.{get_or_default, length-take-le}
use Rattle.memchr.specs.Find.{NoneBefore, Nowhere, Passes, is_byte}

none_in : (bytes : List ℕ) (n : ℕ) → n ≤ length bytes → Nowhere (Passes (is_byte 10) bytes) 0 n → All (λ b. b ≢ 10) (take n bytes)
none_in bytes n bound none i d low is =
    let long : length (take n bytes) ≡ n = length-take-le n bytes bound in
    let below : i < n = omega (arith, low, long) in
    let here : get_or bytes i 0 ≡ 10 = get_or_default bytes i 0 d (omega (arith, below, bound)) ∙ sym (get_or-take n bytes i d below) ∙ is in
    none i (omega arith) below (rw here refl)

back : (n : ℕ) → n + 1 - 1 ≡ n
back n = omega arith

module _ (bytes : List ℕ) (end : ℕ) (found : NoneBefore (Passes (is_byte 10) bytes) 0 (length bytes) end) where
  pub none_before : All (λ b. b ≢ 10) (take (end + 1 - 1) bytes)
  none_before = rw (back end) (none_in bytes end (let high = found.high in omega (arith, high)) found.before)

  pub end_there : Passes (is_byte 10) bytes end → slice_index bytes (end + 1 - 1) ≡ 10
  end_there is = rw (back end) (grind (arith, nat_tests))

module _ (bytes : List ℕ) (none : Nowhere (Passes (is_byte 10) bytes) 0 (length bytes)) where
  pub none_at_all : All (λ b. b ≢ 10) (take (length bytes) bytes)
  none_at_all = none_in bytes (length bytes) (omega arith) none

  pub none_but_last : All (λ b. b ≢ 10) (take (length bytes - 1) bytes)
  none_but_last = none_in bytes (length bytes - 1) (omega arith) (λ k low high. none k low (omega (arith, high)))
