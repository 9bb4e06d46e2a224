-- Of what kind it is that stands in a place.
use Rattle.std.specs.Prelude.{Bool, true, false}
use Rattle.hourstable_c.specs.declared.held.Held.{Held}
use Rattle.hourstable_c.specs.declared.held.Held.TheVariants as held

abbrev pub is_slicelet : Held → Bool
is_slicelet (held.Slicelet job slicelet) = true
is_slicelet _ = false

abbrev pub is_clerk : Held → Bool
is_clerk (held.Clerk job clerk) = true
is_clerk _ = false

abbrev pub is_table : Held → Bool
is_table (held.Table job table) = true
is_table _ = false

abbrev pub is_assigner : Held → Bool
is_assigner (held.Assigner assigner) = true
is_assigner _ = false

abbrev pub is_load_book : Held → Bool
is_load_book (held.LoadBook job book) = true
is_load_book _ = false
