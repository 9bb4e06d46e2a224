-- Where calls stand in the logs.
use Rattle.std.specs.Prelude.{ℕ, List, map}
use Rattle.serde_json.specs.Data.{Data, object}
use Rattle.log_line.specs.declared.entry.LinePosition.{LinePosition}
use Rattle.log_line.specs.declared.entry.LogEntry.{LogEntry}
use Rattle.reason_values.specs.declared.place.LogLine.{LogLine}
use Rattle.reason_values.specs.Places.{with_place}

-- the line of an entry
abbrev pub place_at : LinePosition → LogLine
place_at at = record { log = at.file; line = at.line }

abbrev pub place_of : LogEntry → LogLine
place_of entry = place_at entry.place

abbrev pub places_of : List LogEntry → List LogLine
places_of entries = map place_of entries

-- an object with the place of a call; any other value has none
abbrev pub with_place_in : List LogLine → ℕ → Data → Data
with_place_in places call (object members) = object (with_place places call members)
with_place_in places call d = d
