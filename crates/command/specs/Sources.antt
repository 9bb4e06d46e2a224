-- Where input comes from.
use Rattle.std.specs.Prelude.{◌≡◌, ℕ, List, Option}
use Rattle.std.specs.Io.KnownBytes.{Keeps}
use Rattle.command.specs.declared.arguments.Source.{Source}
use Rattle.command.specs.declared.arguments.Source.TheVariants as source

-- input was read that had `full` before and has `rest` after: all the input, or a file, and then nothing of the input
abbrev pub IsReadFrom : Source → (before after full rest : Option (List ℕ)) → Type 0
IsReadFrom source.Input before after full rest = (full ≡ before) × (rest ≡ after)
IsReadFrom (source.File name) before after full rest = Keeps before after

-- the file was not opened, and nothing was read or written
abbrev pub IsUnopened : Source → (before after held holds : Option (List ℕ)) → ℕ → Type 0
IsUnopened source.Input before after held holds code = ⊥
IsUnopened (source.File name) before after held holds code = (code ≡ 2) × Keeps before after × Keeps held holds
