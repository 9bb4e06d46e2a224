-- Numbers from 1.
use Rattle.std.specs.Prelude.{ℕ, Bool, ◌&&◌, nat_le}

-- a number is from 1 to the most
abbrev pub is_within : ℕ → ℕ → Bool
is_within number most = nat_le 1 number && nat_le number most
