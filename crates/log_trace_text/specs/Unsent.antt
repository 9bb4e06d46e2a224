-- Why nothing sent before what a call delivers, with calls by their numbers from 1 in the place of indices of entries.
use Rattle.std.specs.Prelude.{ℕ, ◌+◌, List, Option, Some, None, slice_get}
use Rattle.log_line.specs.declared.entry.LogEntry.{LogEntry}
use Rattle.log_causes.specs.declared.cause.Change.{Change}
use Rattle.log_causes.specs.declared.cause.Change.TheVariants as changed
use Rattle.log_causes.specs.declared.cause.Member.{Member as Differing}
use Rattle.log_causes.specs.declared.cause.Member.TheVariants as differing
use Rattle.log_causes.specs.declared.cause.Unsent.{Unsent as Found}
use Rattle.log_causes.specs.declared.cause.Unsent.TheVariants as found
use Rattle.reason_values.specs.declared.unsent.Difference.{Difference}
use Rattle.reason_values.specs.declared.unsent.Difference.TheVariants as difference
use Rattle.reason_values.specs.declared.unsent.Member.{Member}
use Rattle.reason_values.specs.declared.unsent.Member.TheVariants as member
use Rattle.reason_values.specs.declared.unsent.Unsent.{Unsent}
use Rattle.reason_values.specs.declared.unsent.Unsent.TheVariants.{Later, Other, Nothing}

abbrev pub member_of : Differing → Member
member_of differing.Task = member.Task
member_of differing.Life = member.Life
member_of differing.Generation = member.Generation
member_of differing.Ends = member.Ends
member_of differing.Until = member.Until
member_of differing.SliceKey = member.SliceKey

abbrev pub difference_of : Change → Difference
difference_of (changed.Number which here there) = difference.Number (member_of which) here there
difference_of (changed.Kind here there) = difference.Kind here there
difference_of changed.Ranges = difference.Ranges
difference_of changed.Slices = difference.Slices

-- the later entry that sends it, if there is one at this index
abbrev pub later_of : ℕ → Option LogEntry → Unsent
later_of index None = Nothing
later_of index (Some entry) = Later (index + 1) entry.line.ticket

-- the entry that sent another one, if there is one at this index
abbrev pub other_of : ℕ → Change → Option LogEntry → Unsent
other_of index change None = Nothing
other_of index change (Some entry) = Other (index + 1) (difference_of change)

-- why nothing of these entries sent it
abbrev pub unsent_of : List LogEntry → Found → Unsent
unsent_of entries (found.Later index) = later_of index (slice_get entries index)
unsent_of entries (found.Other what) = other_of what.place what.change (slice_get entries what.place)
unsent_of entries found.Nothing = Nothing
