-- An assignment, or none before the first.
use Rattle.std.specs.Prelude.{ℕ, List, [], Option, Some, None}
use Rattle.assignment.specs.declared.slice.Slice.{Slice}
use Rattle.assignment.specs.Slices.{Slicing}

-- the generation of an assignment; there is generation 0 before the first
abbrev pub generation_of : Option Slicing → ℕ
generation_of None = 0
generation_of (Some slicing) = slicing.generation

-- the slices of an assignment; generation 0 has none, so that nobody owns a key
abbrev pub slices_of : Option Slicing → List Slice
slices_of None = []
slices_of (Some slicing) = slicing.slices
