-- What `{:02x}` writes.
use Rattle.std.proofs.Common.{◌≡◌, ℕ, ◌-◌, List, [], ◌++◌, length, replicate, false, ap, ◌∙◌}
use Rattle.std.proofs.Math.Nat.{sub-zero}
use Rattle.std.proofs.lemmas.List.{append-nil}
use Rattle.std.specs.Fmt.{padded_integral, format_spec, char_count}

pub padded_byte : (xs : List ℕ) → padded_integral (format_spec 32 0 4 2 18446744073709551615) false [] xs ≡ replicate (2 - length xs) 48 ++ xs
unfolding padded_integral char_count
padded_byte xs = simp append-nil (ap (λ (n : ℕ). replicate n 48 ++ xs) (sub-zero (2 - length xs - 0) ∙ sub-zero (2 - length xs)))
