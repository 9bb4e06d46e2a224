-- What a table gives by its message: the next grant, the committed assignment, and the values that outlast its process.
use Rattle.std.specs.Prelude.{◌≡◌, ℕ, List, Option, Some, None, Result}
use Rattle.assignment.specs.Slices.{Slicing}
use Rattle.grants.specs.declared.values.Grant.{Grant}
use Rattle.grants.specs.declared.table_error.TableError.{TableError}
use Rattle.grants.specs.declared.table_error.TableError.TheVariants.{NoAssignment}
use Rattle.grants.specs.declared.kept.Kept.{Kept}
use Rattle.lease_table.specs.Tables.{Standing}
use Rattle.lease_table.specs.Steps.{grant_step}
use Rattle.c_calls.specs.declared.answer.Answer.{Answer}
use Rattle.c_calls.specs.declared.answer.Answer.TheVariants.{Table}
use Rattle.c_calls.specs.Arguments.{InForm}
use Rattle.c_calls.specs.Messages.{IsAssignmentText, IsGrantText, IsKeptText}
use Rattle.c_calls.specs.Outputs.{IsOneGivenUnlessMemory, Output}
use Rattle.c_calls.specs.Taken.{IsStepGiven}

-- the grant is made and its message given; or it is refused, or there is no room or no memory for it, and none is made
abbrev pub IsGrantStep : List ℕ → Result (Standing × Grant) TableError → Standing → Standing → Output ℕ → Output ℕ → Answer → Type 0
IsGrantStep job step old new was now answer = IsStepGiven (λ why. Table why) (IsGrantText job) step old new was now answer

-- the same for the numbers of a task and of one of its lives
abbrev pub IsGranted : List ℕ → Option ℕ → Option ℕ → ℕ → Standing → Standing → Output ℕ → Output ℕ → Answer → Type 0
IsGranted job task life at old new was now answer = InForm task ((new ≡ old) × (now ≡ was)) answer (λ task.
    InForm life ((new ≡ old) × (now ≡ was)) answer (λ life. IsGrantStep job (grant_step old task life at) old new was now answer))

-- the message of the committed assignment is given, where there is one
abbrev pub IsCommittedGiven : List ℕ → Option Slicing → Output ℕ → Output ℕ → Answer → Type 0
IsCommittedGiven job None was now answer = (answer ≡ Table NoAssignment) × (now ≡ was)
IsCommittedGiven job (Some slicing) was now answer = IsOneGivenUnlessMemory (IsAssignmentText job slicing) was now answer

-- the message of kept values is given
abbrev pub IsKeptGiven : List ℕ → Kept → Output ℕ → Output ℕ → Answer → Type 0
IsKeptGiven job kept was now answer = IsOneGivenUnlessMemory (IsKeptText job kept) was now answer
