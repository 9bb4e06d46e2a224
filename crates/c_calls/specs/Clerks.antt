-- What the calls of a clerk leave and answer.
use Rattle.std.specs.Prelude.{◌≡◌, ℕ, List, codes, length, Option, Result, Ok, Err}
use Rattle.assignment.specs.Slices.{Slicing}
use Rattle.clerk.specs.declared.clerk.Found.{Found}
use Rattle.clerk.specs.declared.error.ClerkError.{ClerkError}
use Rattle.clerk.specs.declared.error.ClerkError.TheVariants.{Old}
use Rattle.clerk.specs.declared.error.Unknown as unknown
use Rattle.clerk.specs.Steps.{learn_step, look_at}
use Rattle.wire.specs.Assignments.{assignment_of}
use Rattle.wire.specs.declared.fault.DecodeError.{DecodeError}
use Rattle.c_calls.specs.declared.answer.Answer.{Answer}
use Rattle.c_calls.specs.declared.answer.Answer.TheVariants.{Done, OldGeneration, Unknown}
use Rattle.c_calls.specs.declared.clerks.owners.OwnersNumbers.{OwnersNumbers}
use Rattle.c_calls.specs.Arguments.{InForm}
use Rattle.c_calls.specs.Assignments.{owner_numbers}
use Rattle.c_calls.specs.Reading.{IsReadFrom, OnRead}
use Rattle.c_calls.specs.Taken.{IsTaken}

-- why an assignment is not learnt
abbrev pub old_answer : ClerkError → Answer
old_answer (Old generation) = OldGeneration generation

-- the assignment that was read is kept, or why it is not
abbrev pub IsLearnt : Option Slicing → Option Slicing → Answer → Result Slicing DecodeError → Type 0
IsLearnt old new answer = OnRead (new ≡ old) answer (λ slicing. IsTaken (λ _. Done) old_answer (learn_step old slicing) old new answer)

-- the bytes were read as an assignment of the job
abbrev pub IsAssignmentLearnt : List ℕ → List ℕ → Option Slicing → Option Slicing → Answer → Type 0
IsAssignmentLearnt job bytes old new answer = IsReadFrom job (codes "assignment") assignment_of bytes (IsLearnt old new answer)

-- the numbers are those of the owners that were found
pub record IsOf (found : Found) (numbers : OwnersNumbers) : Type 0 where
  pub generation : numbers.generation ≡ found.generation
  pub count : numbers.count ≡ length found.owners.items
  pub tasks : numbers.tasks ≡ owner_numbers found.owners.items

-- the owners that were found are written, and nothing where no assignment is kept
abbrev pub IsLookedUp : Result Found unknown.Unknown → OwnersNumbers → OwnersNumbers → Answer → Type 0
IsLookedUp (Ok found) was now answer = (answer ≡ Done) × IsOf found now
IsLookedUp (Err why) was now answer = (answer ≡ Unknown) × (now ≡ was)

-- the same of a slice key
abbrev pub IsLookedUpAt : Option ℕ → Option Slicing → OwnersNumbers → OwnersNumbers → Answer → Type 0
IsLookedUpAt key kept was now answer = InForm key (now ≡ was) answer (λ key. IsLookedUp (look_at kept key) was now answer)
