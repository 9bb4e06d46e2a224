-- Sets of keys in which each key has a stamp.
use Rattle.std.specs.Prelude.{ℕ, ◌+◌, Bool, if◌then◌else◌, Option, Some, None}
use Rattle.slice_ranges.specs.declared.key.TheConstants.{KEYS}
use Rattle.slice_ranges.specs.Levels.{Levels, value_after, LevelsRise}

-- the keys at which the stamp changes, each with the stamp from there on, if there is one
abbrev pub Stamps : Type 0
Stamps = Levels (Option ℕ)

-- the stamp of a key
abbrev pub since : Stamps → ℕ → Option ℕ
since = value_after None

abbrev pub IsStamps : Stamps → Type 0
IsStamps stamps = LevelsRise 0 stamps (KEYS + 1)

-- a stamp, or else another one
abbrev pub or_stamp : Option ℕ → ℕ → ℕ
or_stamp None stamp = stamp
or_stamp (Some old) stamp = old

-- a key of the set after keeps its stamp where it has one and is in the set before, else it gets the new one
abbrev pub stamp_after_change : Option ℕ → Bool → Bool → ℕ → Option ℕ
stamp_after_change old before after stamp = if after then Some (if before then or_stamp old stamp else stamp) else None
