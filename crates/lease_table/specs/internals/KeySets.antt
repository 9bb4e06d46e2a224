-- Sets of the keys of tasks.
use Rattle.std.specs.Prelude.{◌≡◌, ℕ, ◌==◌, Bool, List, find, Option, option_map}
use Rattle.std.specs.List.{AllByRecursion}
use Rattle.slice_ranges.specs.Sets.{keys_where}
use Rattle.lease_table.specs.declared.key_sets.KeySet.{KeySet}

-- the keys in the set of a task, if there is one
abbrev pub keys_in : List KeySet → ℕ → Option (List ℕ)
keys_in sets task = option_map (λ set. set.keys) (find (λ set. set.task == task) sets)

-- each set has the keys that its task owns, of which a test tells
abbrev pub AreKeysBy : (ℕ → ℕ → Bool) → List KeySet → Type 0
AreKeysBy owned sets = AllByRecursion (λ set. set.keys ≡ keys_where (owned set.task)) sets
