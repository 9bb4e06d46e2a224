-- The positions of entries.
use Rattle.std.specs.Prelude.{ℕ, List, [], ◌++◌, codes, decimal, Option, Some, None, slice_get}
use Rattle.faults.specs.Quoted.{escaped}
use Rattle.log_line.specs.declared.entry.LogEntry.{LogEntry}

-- the name of a file, or nothing if it has none
abbrev pub name_text : Option (List ℕ) → List ℕ
name_text (Some name) = name
name_text None = []

-- where an entry stands: the name of its file, with escapes, and the number of its line
abbrev pub standing_text : List (List ℕ) → Option LogEntry → List ℕ
standing_text names (Some entry) = escaped (name_text (slice_get names entry.place.file)) ++ (codes ":" ++ decimal entry.place.line)
standing_text names None = []

abbrev pub standing_at : List (List ℕ) → List LogEntry → ℕ → List ℕ
standing_at names entries index = standing_text names (slice_get entries index)
