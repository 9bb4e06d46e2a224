-- What a place ends as once its value was lent.
use Rattle.std.specs.Prelude.{◌≡◌, Option, Some, ⊤}
use mathlib.Core.Option.{none}
use Rattle.std.specs.Borrow.{Lends, LendsIf, MutBor, Fml, follows_so}
use Rattle.hourstable_c.specs.declared.held.Held.{Held}
use Rattle.hourstable_c.specs.contracts.held.Held.{the_row as held_row}
use Rattle.hourstable_c.specs.declared.place.Place.{Place}
use Rattle.hourstable_c.specs.contracts.place.Place.{the_row}

-- the place with another value at its address
abbrev pub with_value : Place → Held → Place
with_value p v = record p { value = Some v }

-- the place ends with the value that its borrower left
abbrev pub LendsValue : MutBor Place → MutBor Held → Fml
LendsValue h r = Lends the_row held_row h r (with_value h.now)

-- the same, if there is a value to lend
abbrev pub LendsIfThere : MutBor Place → Option (MutBor Held) → Fml
LendsIfThere h r = LendsIf the_row held_row h r (with_value h.now) h.now

-- the place ends with the value that stands there
abbrev pub Stays : MutBor Place → Fml
Stays h = follows_so the_row the_row h.ghost_name none (λ _ _. ⊤) (λ now. now.value ≡ h.now.value)
