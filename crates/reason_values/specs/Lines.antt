-- Lines of a trace.
use Rattle.std.specs.Prelude.{ℕ, List, ◌++◌, codes}
use Rattle.serde_json.specs.Data.{Data}
use Rattle.serde_json.specs.Written.{compact_text}

-- a value without white space, ended by a line feed
abbrev pub line_text : Data → List ℕ
line_text value = compact_text value ++ codes "\n"
