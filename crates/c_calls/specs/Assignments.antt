-- Assignments by numbers.
use Rattle.std.specs.Prelude.{◌≡◌, ◌⊎◌, ℕ, ◌++◌, ◌-◌, nat_le, List, [], ◌∷◌, codes, length, map, replicate, take, Option, Some, None, Result, if◌then◌else◌}
use Rattle.assignment.specs.declared.error.AssignmentError.{AssignmentError}
use Rattle.assignment.specs.declared.slice.Slice.{Slice}
use Rattle.assignment.specs.declared.slice.TheConstants.{MOST_OWNERS}
use Rattle.assignment.specs.Owners.{built, slice_at}
use Rattle.assignment.specs.Slices.{Slicing, refusal_of}
use Rattle.wire.specs.Assignments.{assignment_of}
use Rattle.wire.specs.declared.fault.DecodeError.{DecodeError}
use Rattle.wire.specs.declared.fault.DecodeRefusal.TheVariants.{Slices}
use Rattle.c_calls.specs.declared.answer.Answer.{Answer}
use Rattle.c_calls.specs.declared.answer.Answer.TheVariants.{Done, NoMemory, Unread}
use Rattle.c_calls.specs.declared.assignments.SliceNumbers.{SliceNumbers}
use Rattle.c_calls.specs.Arguments.{InForm}
use Rattle.c_calls.specs.Messages.{IsAssignmentText}
use Rattle.c_calls.specs.Outputs.{IsGivenWhole, IsOneGivenUnlessMemory, Output}
use Rattle.c_calls.specs.Reading.{IsReadFrom, OnRead}

-- owners come first, and the others are 0
abbrev pub owner_numbers : List ℕ → List ℕ
owner_numbers owners = owners ++ replicate (MOST_OWNERS - length owners) 0

-- the slice that numbers say: the first tasks own it; where there would be more than there is room for, it has one owner too many
abbrev pub slice_of : SliceNumbers → Slice
slice_of n = record { start = n.start; owners = if nat_le n.count MOST_OWNERS then take n.count n.tasks else n.tasks ++ 0 ∷ [] }

abbrev pub slices_of : List SliceNumbers → List Slice
slices_of numbers = map slice_of numbers

-- the numbers of a slice
abbrev pub slice_numbers : Slice → SliceNumbers
slice_numbers slice = record { start = slice.start; count = length slice.owners; tasks = owner_numbers slice.owners }

-- the message of the assignment that is built of the slices is given, or memory ran out; or they are refused
abbrev pub IsBuiltUnless : Option AssignmentError → List ℕ → ℕ → List Slice → Output ℕ → Output ℕ → Answer → Type 0
IsBuiltUnless None job generation slices was now answer =
    IsOneGivenUnlessMemory (IsAssignmentText job (built generation slices)) was now answer
IsBuiltUnless (Some why) job generation slices was now answer = (answer ≡ Unread (Slices why)) × (now ≡ was)

-- the same for the name of a job
abbrev pub IsBuiltFor : Option (List ℕ) → ℕ → List Slice → Output ℕ → Output ℕ → Answer → Type 0
IsBuiltFor job generation slices was now answer =
    InForm job (now ≡ was) answer (λ job. IsBuiltUnless (refusal_of slices) job generation slices was now answer)

-- its generation is told, and the numbers of its slices are given, where there is room for them; or memory ran out
abbrev pub IsAssignmentTold : ℕ → ℕ → Output SliceNumbers → Output SliceNumbers → Answer → Result Slicing DecodeError → Type 0
IsAssignmentTold old new was now answer = OnRead ((new ≡ old) × (now ≡ was)) answer (λ slicing.
    ((new ≡ slicing.generation) × IsGivenWhole (map slice_numbers slicing.slices) was now answer)
    ⊎ ((answer ≡ NoMemory) × (new ≡ old) × (now ≡ was)))

-- the bytes are read as an assignment of the job
abbrev pub IsAssignmentRead : Option (List ℕ) → List ℕ → ℕ → ℕ → Output SliceNumbers → Output SliceNumbers → Answer → Type 0
IsAssignmentRead job bytes old new was now answer = InForm job ((new ≡ old) × (now ≡ was)) answer
    (λ job. IsReadFrom job (codes "assignment") assignment_of bytes (IsAssignmentTold old new was now answer))

-- the numbers are those of the slice of the key
pub record HasSlice (slices : List Slice) (key : ℕ) (numbers : SliceNumbers) : Type 0 where
  pub slice : Slice
  pub of_key : slice_at slices key ≡ Some slice
  pub is : numbers ≡ slice_numbers slice

-- the slice of the key is told
abbrev pub IsSliceTold : ℕ → SliceNumbers → SliceNumbers → Answer → Result Slicing DecodeError → Type 0
IsSliceTold key was now answer = OnRead (now ≡ was) answer (λ slicing. (answer ≡ Done) × HasSlice slicing.slices key now)

-- the bytes are read as an assignment of the job
abbrev pub IsSliceRead : Option (List ℕ) → Option ℕ → List ℕ → SliceNumbers → SliceNumbers → Answer → Type 0
IsSliceRead job key bytes was now answer = InForm job (now ≡ was) answer (λ job. InForm key (now ≡ was) answer
    (λ key. IsReadFrom job (codes "assignment") assignment_of bytes (IsSliceTold key was now answer)))
