-- Parts of lines.
use Rattle.std.specs.Prelude.{◌≡◌, ◌≢◌, ℕ, Bool, true, false, List, ◌++◌, All, Option, OnSome, length}
use Rattle.std.specs.Io.{StopsAt, IsEmptyOrEndsWith}
use Rattle.std.specs.Io.KnownBytes.{Consumes, IsAtEnd}

-- a part of a line was read and appended: it ends after byte 10, or at the end of the input, or goes on
pub record IsPart (before after : Option (List ℕ)) (old new : List ℕ) (done : Bool) : Type 0 where
  pub part : List ℕ
  pub appended : new ≡ old ++ part
  pub gave : Consumes before after part
  pub stops : StopsAt part 10
  pub goes_on : done ≡ false → All (λ b. b ≢ 10) part
  pub ends : done ≡ true → IsEmptyOrEndsWith part 10
  pub none : done ≡ true → length part ≡ 0 → OnSome before (IsAtEnd after)
