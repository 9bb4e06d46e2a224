-- The assignments of a table.
use Rattle.std.specs.Prelude.{ℕ, ◌&&◌, Bool, Option}
use Rattle.assignment.specs.Slices.{Slicing}
use Rattle.assignment.specs.Owners.{owns}
use Rattle.grants.specs.Assignments.{slices_of}

-- the committed assignment and the proposed one
pub record Assignments : Type 0 where
  pub committed : Option Slicing
  pub pending : Option Slicing

-- whether a task owns a key in an assignment
abbrev pub owned_in : Option Slicing → ℕ → ℕ → Bool
owned_in slicing task key = owns (slices_of slicing) key task

-- whether a task owns a key in the committed assignment and in the proposed one
abbrev pub owned_in_both : Assignments → ℕ → ℕ → Bool
owned_in_both p task key = owned_in p.committed task key && owned_in p.pending task key
