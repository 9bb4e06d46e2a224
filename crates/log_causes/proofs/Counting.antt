-- What numbers give, one after the other.
use Rattle.std.proofs.Common.{◌≡◌, ℕ, suc, ◌+◌, List, ◌++◌, refl, arith}
use Rattle.log_causes.specs.Callers.{each_to}

pub each_more : {A : Type 0} (of : ℕ → List A) (n : ℕ) → each_to of (n + 1) ≡ each_to of n ++ of (n + 1)
each_more of n = let e : n + 1 ≡ suc n = omega arith in rw e refl
