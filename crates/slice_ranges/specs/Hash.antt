-- The slice key of an application key.
use Rattle.std.specs.Prelude.{ℕ, ◌/◌, List, take}
use Rattle.std.specs.Int.{w64, from_be_bytes}
use Rattle.sha2.specs.Sha256.{sha256}

-- the first eight bytes of the digest as one number, most significant byte first, shifted right by one bit
abbrev pub slice_key : List ℕ → ℕ
slice_key key = from_be_bytes w64 (take 8 (sha256 key)) / 2
