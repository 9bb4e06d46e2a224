-- What a clerk has learnt, by the calls that it answered.
use Rattle.std.specs.Prelude.{◌≤◌, nat_lt, ℕ, List, [], ◌∷◌, All, Contains, Option, Some, None, Result, is_ok, if◌then◌else◌}
use Rattle.assignment.specs.Slices.{Slicing}
use Rattle.clerk.specs.declared.call.ClerkCall.{ClerkCall}
use Rattle.clerk.specs.declared.call.ClerkCall.TheVariants.{Learn, Forget}
use Rattle.clerk.specs.declared.clerk.Found.{Found}
use Rattle.clerk.specs.declared.error.Unknown.{Unknown}
use Rattle.clerk.specs.Calls.{AnsweredClerkCall}
use Rattle.clerk.specs.Steps.{look_at}

-- the assignments that were accepted since the last `forget`, the last one first
abbrev pub accepted_with : ClerkCall → List Slicing → List Slicing
accepted_with (Learn slicing) before = slicing ∷ before
accepted_with Forget before = []

abbrev pub accepted_since_forget : List AnsweredClerkCall → List Slicing
accepted_since_forget [] = []
accepted_since_forget (e ∷ past) = if is_ok e.answer then accepted_with e.call (accepted_since_forget past) else accepted_since_forget past

-- an assignment is one of these, and none of them is of a greater generation
pub record IsGreatest (slicings : List Slicing) (slicing : Slicing) : Type 0 where
  pub listed : Contains slicings slicing
  pub greatest : All (λ other. other.generation ≤ slicing.generation) slicings

-- the one of the greater generation
abbrev pub greater : Slicing → Option Slicing → Slicing
greater slicing None = slicing
greater slicing (Some other) = if nat_lt slicing.generation other.generation then other else slicing

-- the assignment of greatest generation among these
abbrev pub greatest_of : List Slicing → Option Slicing
greatest_of [] = None
greatest_of (slicing ∷ slicings) = Some (greater slicing (greatest_of slicings))

-- a clerk's answer: the generation and the owners of a key in the assignment of greatest generation that it accepted
-- since its last `forget`, or that there is none
abbrev pub clerk_answer : List AnsweredClerkCall → ℕ → Result Found Unknown
clerk_answer past key = look_at (greatest_of (accepted_since_forget past)) key
