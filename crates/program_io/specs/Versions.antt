-- A version as text.
use Rattle.std.specs.Prelude.{ℕ, List, ◌++◌, codes, decimal}
use Rattle.program_io.specs.declared.version.LibraryVersion.{LibraryVersion}

-- its numbers, with dots between them
abbrev pub version_text : LibraryVersion → List ℕ
version_text version = decimal version.major ++ (codes "." ++ (decimal version.minor ++ (codes "." ++ decimal version.patch)))
