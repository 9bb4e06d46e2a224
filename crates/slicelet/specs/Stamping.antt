-- The stamp of a key: the call since which it has been permitted.
use Rattle.std.specs.Prelude.{ℕ, zero, suc, ◌+◌, Bool, List, [], ◌∷◌, length, Option, None, slice_index_or}
use Rattle.slice_ranges.specs.declared.key.TheConstants.{KEYS}
use Rattle.grants.specs.declared.values.Grant.{Grant}
use Rattle.key_handle.specs.Stamps.{stamp_after_change}
use Rattle.grants.specs.declared.slicelet_call.SliceletCall.{SliceletCall}
use Rattle.slicelet.specs.Calls.{reading_of, this_process}
use Rattle.slicelet.specs.Rules.{is_permitted}

-- of each call, whether the key was permitted at its reading just before it, and whether just after it
abbrev pub turns : (Grant → Bool) → List SliceletCall → List (Bool × Bool)
turns covers [] = []
turns covers (c ∷ h) = (is_permitted covers h (reading_of c), is_permitted covers (c ∷ h) (reading_of c)) ∷ turns covers h

-- each call stamps the key with the number of calls, itself included, unless it keeps its stamp
abbrev pub stamp_after : List (Bool × Bool) → Option ℕ
stamp_after [] = None
stamp_after (t ∷ h) = stamp_after_change (stamp_after h) t.0 t.1 (length h + 1)

-- the stamp of a key, by the calls of this process
abbrev pub stamp_of : (Grant → Bool) → List SliceletCall → Option ℕ
stamp_of covers h = stamp_after (turns covers (this_process h))

-- the stamps of the next so many keys, from `low` on
unfoldable pub stamps_from : (ℕ → Option ℕ) → ℕ → ℕ → List (Option ℕ)
stamps_from stamp low zero = []
stamps_from stamp low (suc n) = stamp low ∷ stamps_from stamp (low + 1) n

-- the stamp of each key
abbrev pub stamps_where : (ℕ → Option ℕ) → List (Option ℕ)
stamps_where stamp = stamps_from stamp 0 KEYS

-- the stamp of a key among those of each key
abbrev pub stamp_among : List (Option ℕ) → ℕ → Option ℕ
stamp_among stamps key = slice_index_or stamps key None
