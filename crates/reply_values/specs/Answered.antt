-- Calls with their answers.
use Rattle.std.specs.Prelude.{◌≡◌, ⊤, ℕ, List, codes, Option, Some, None, false, option_map}
use Rattle.serde_json.specs.Data.{Data, object, put}
use Rattle.serde_json.specs.Written.{has_float}
use Rattle.reply_values.specs.declared.answered.Warnings.{Warnings}
use Rattle.reply_values.specs.Values.{large_data}

-- an object with one more member; any other value has none
abbrev pub with_member : List ℕ → Data → Data → Data
with_member name value (object members) = object (put name value members)
with_member name value d = d

-- with a member where there is a value
abbrev pub with_member_if : List ℕ → Option Data → Data → Data
with_member_if name None d = d
with_member_if name (Some value) d = with_member name value d

-- with what a call is warned of
abbrev pub warned_data : Warnings → Data → Data
warned_data warnings d = with_member_if (codes "not_owner") (option_map large_data warnings.not_owner)
    (with_member_if (codes "untimely") (option_map large_data warnings.untimely) d)

-- a call with its ticket, if it has one; with its reply and what decides it, where there are these; and with what it is warned of
abbrev pub answered_data : Data → Option ℕ → Option Data → Option Data → Warnings → Data
answered_data call ticket reply reason warnings = warned_data warnings
    (with_member_if (codes "reason") reason (with_member_if (codes "reply") reply (with_member_if (codes "ticket") (option_map large_data ticket) call)))

-- a value has no fraction, where there is one, so that its text is the compact one
abbrev pub IsWholeIf : Option Data → Type 0
IsWholeIf None = ⊤
IsWholeIf (Some d) = has_float d ≡ false

-- what is made of a call, a reply and a reason without fractions has none
abbrev pub IsWholeWith : Data → Option Data → Option Data → Data → Type 0
IsWholeWith call reply reason v = has_float call ≡ false → IsWholeIf reply → IsWholeIf reason → has_float v ≡ false
