-- Where the calls of a trace stand.
use Rattle.std.specs.Prelude.{ℕ, List, codes, Option, Some, None}
use Rattle.serde_json.specs.Data.{Data, Members, no_members, object, put}
use Rattle.cluster.specs.Numbers.{with_number}
use Rattle.wire.specs.Objects.{number_data}
use Rattle.reason_values.specs.declared.place.LogLine.{LogLine}

-- these members, with a line of a log where there is one
abbrev pub with_line : Option LogLine → Members → Members
with_line None members = members
with_line (Some at) members = put (codes "log") (number_data at.log) (put (codes "line") (number_data at.line) members)

-- these members, with the number of a call, and its line by the lines of all calls of logs in order; a script has no lines
abbrev pub with_place : List LogLine → ℕ → Members → Members
with_place lines call members = with_line (with_number call lines) (put (codes "call") (number_data call) members)

-- `{"call":C}` of a script, and `{"call":C,"line":L,"log":G}` of logs
abbrev pub place_data : List LogLine → ℕ → Data
place_data lines call = object (with_place lines call no_members)
