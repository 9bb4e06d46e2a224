-- Extensions among the entries of a map.
use Rattle.std.proofs.Common.{◌≡◌, List, [], ◌∷◌, String, Global, Bool, true, false, cond, not, filter, if◌then◌else◌, refl, ◌∙◌, string_bytes}
use Rattle.serde_json.specs.Data.{member}
use Rattle.serde_json.specs.View.{view, members_view}
use Rattle.serde_json.specs.declared.value.Value.{Value}
use Rattle.log_line.specs.Extensions.{is_extension, members_without_extensions}

-- an entry that is no extension
abbrev pub is_left : String Global × Value → Bool
is_left entry = not (is_extension (string_bytes entry.0))

one_left : (extends : Bool) (e : String Global × Value) (rest : List (String Global × Value))
    → members_view (cond (not extends) (e ∷ rest) rest) ≡ (if extends then members_view rest else member (string_bytes e.0) (view e.1) (members_view rest))
one_left true e rest = refl
one_left false e rest = refl

pub members_left : (es : List (String Global × Value)) → members_view (filter is_left es) ≡ members_without_extensions (members_view es)
members_left [] = refl
members_left (e ∷ es) = one_left (is_extension (string_bytes e.0)) e (filter is_left es) ∙ rw (members_left es)
