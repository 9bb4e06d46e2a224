-- Why nothing was sent before what a call delivers.
use Rattle.std.specs.Prelude.{ℕ, List, [], ◌∷◌, codes, true}
use Rattle.serde_json.specs.Data.{Data, Members, boolean, no_members, object, put, string}
use Rattle.wire.specs.LeaseMembers.{kind_data}
use Rattle.wire.specs.Objects.{object_data}
use Rattle.reason_values.specs.declared.place.LogLine.{LogLine}
use Rattle.reason_values.specs.declared.unsent.Difference.{Difference}
use Rattle.reason_values.specs.declared.unsent.Difference.TheVariants as differs
use Rattle.reason_values.specs.declared.unsent.Member.{Member}
use Rattle.reason_values.specs.declared.unsent.Member.TheVariants as member
use Rattle.reason_values.specs.declared.unsent.Unsent.{Unsent}
use Rattle.reason_values.specs.declared.unsent.Unsent.TheVariants.{Later, Other, Nothing}
use Rattle.reply_values.specs.Values.{large_data}
use Rattle.reason_values.specs.Places.{place_data, with_place}

-- the greatest number that was made so far of what a step delivers by its number
abbrev pub made_data : ℕ → Data
made_data made = object_data ((codes "made", large_data made) ∷ [])

-- the name of a member that is a number
abbrev pub member_name : Member → List ℕ
member_name member.Task = codes "task"
member_name member.Life = codes "life"
member_name member.Generation = codes "generation"
member_name member.Ends = codes "ends"
member_name member.Until = codes "until"
member_name member.SliceKey = codes "slice_key"

-- these members, with the name of the one that differs
abbrev pub with_name : List ℕ → Members → Members
with_name name members = put (codes "member") (string name) members

-- and with its two values: in the call, and in what was sent
abbrev pub with_values : Data → Data → Members → Members
with_values here there members = put (codes "there") there (put (codes "here") here members)

-- these members, with the first member that differs; of ranges and slices there are no values
abbrev pub with_difference : Difference → Members → Members
with_difference (differs.Number which here there) members = with_values (large_data here) (large_data there) (with_name (member_name which) members)
with_difference (differs.Kind here there) members = with_values (kind_data here) (kind_data there) (with_name (codes "kind") members)
with_difference differs.Ranges members = with_name (codes "ranges") members
with_difference differs.Slices members = with_name (codes "slices") members

-- the later call that sends it, with its ticket; the call that sent another one in its place; or that no call sends it
abbrev pub sent_data : List LogLine → Unsent → Data
sent_data lines (Later call ticket) = object_data
    ((codes "later", object (put (codes "ticket") (large_data ticket) (with_place lines call no_members))) ∷ [])
sent_data lines (Other call difference) = object (with_difference difference (put (codes "other") (place_data lines call) no_members))
sent_data lines Nothing = object_data ((codes "nothing", boolean true) ∷ [])

abbrev pub unsent_data : List LogLine → Unsent → Data
unsent_data lines unsent = object_data ((codes "sent", sent_data lines unsent) ∷ [])
