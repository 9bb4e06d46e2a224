-- An entry of some.
use Rattle.std.specs.Prelude.{◌≡◌, ℕ, ◌<◌, List, length, get_or}
use Rattle.log_line.specs.declared.entry.LogEntry.{LogEntry}

-- the entry stands at this place
abbrev pub IsEntryAt : List LogEntry → ℕ → LogEntry → Type 0
IsEntryAt entries index entry = (index < length entries) × (entry ≡ get_or entries index entry)
