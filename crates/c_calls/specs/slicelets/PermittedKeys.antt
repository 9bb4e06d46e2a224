-- The keys that a task may serve, by their boundaries.
use Rattle.std.specs.Prelude.{◌≡◌, ℕ, List}
use Rattle.slice_ranges.specs.Sets.{has, IsRanges}
use Rattle.slicelet.specs.States.{SliceletState, permits}
use Rattle.c_calls.specs.declared.answer.Answer.{Answer}
use Rattle.c_calls.specs.Outputs.{IsOneGivenUnlessMemory, Output}

-- the boundaries are those of the keys that the written rule permits at the reading
pub record ArePermitted (s : SliceletState) (at : ℕ) (boundaries : List ℕ) : Type 0 where
  pub ranges : IsRanges boundaries
  pub keys : (key : ℕ) → has boundaries key ≡ permits s key at

-- they are given
abbrev pub ArePermittedGiven : SliceletState → ℕ → Output ℕ → Output ℕ → Answer → Type 0
ArePermittedGiven s at was now answer = IsOneGivenUnlessMemory (ArePermitted s at) was now answer
