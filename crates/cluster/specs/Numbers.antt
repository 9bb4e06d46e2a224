-- Things by their numbers.
use Rattle.machines.specs.Numbers.{is_within}
use Rattle.std.specs.Prelude.{ℕ, ◌-◌, ◌==◌, List, Option, None, slice_get, if◌then◌else◌}

-- things are numbered 1, 2, .. in the order in which they were made
abbrev pub with_number : {A : Type 0} → ℕ → List A → Option A
with_number number made = if number == 0 then None else slice_get made (number - 1)

-- one of those that are kept, which are all but the first ones, so many
abbrev pub kept_with_number : {A : Type 0} → ℕ → ℕ → List A → Option A
kept_with_number number before kept = if is_within number before then None else with_number (number - before) kept
