-- Tests on numbers that are known to be within their limits.
use Rattle.std.proofs.Common.{◌≡◌, ℕ, ◌^◌, ◌<◌, ◌≤◌, true, ltb, arith}
use Rattle.std.proofs.lemmas.Bool.Decides.{nat_tests}
use Rattle.machines.specs.Numbers.{is_within}

pub is_life : (n : ℕ) → n < 2 ^ 32 → ltb n (2 ^ 32) ≡ true
is_life n below = grind (arith, nat_tests)

pub is_task : (n most : ℕ) → 1 ≤ n → n ≤ most → is_within n most ≡ true
is_task n most low high = grind (arith, nat_tests)
