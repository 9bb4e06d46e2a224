-- A stream that nothing was read from or written to.
use Rattle.std.proofs.Common.{ℕ, List, Option, Some, None, refl}
use Rattle.std.specs.Io.KnownBytes.{Keeps}

-- what was held before is held still
pub keeps_itself : (held : Option (List ℕ)) → Keeps held held
keeps_itself None = tt
keeps_itself (Some xs) = refl
