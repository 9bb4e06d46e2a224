-- A task's processes, what it holds and what it does next, by numbers.
use Rattle.std.specs.Prelude.{◌≡◌, ℕ, List, Option, Some, None, if◌then◌else◌}
use Rattle.lease_rule.specs.declared.lease.Kind.{Kind}
use Rattle.lease_rule.specs.declared.lease.Kind.TheVariants.{Guard, Bridge}
use Rattle.assignment.specs.Slices.{is_task}
use Rattle.grants.specs.declared.values.Grant.{Grant}
use Rattle.grants.specs.declared.values.Phase.{Phase}
use Rattle.grants.specs.declared.values.ReleaseNote.{ReleaseNote}
use Rattle.grants.specs.declared.slicelet_error.SliceletError.TheVariants.{NothingHeld}
use Rattle.slicelet.specs.declared.next_action.TaskAction.{TaskAction}
use Rattle.slicelet.specs.declared.next_action.TaskAction.TheVariants.{Start, Ask, GiveUp, Rest}
use Rattle.slicelet.specs.States.{SliceletState, held_in, resumed}
use Rattle.grants.specs.SliceletCalls.{ended_note}
use Rattle.slicelet.specs.NextActions.{next_action}
use Rattle.fence.specs.Giving.{carefully}
use Rattle.c_calls.specs.declared.answer.Answer.{Answer}
use Rattle.c_calls.specs.declared.answer.Answer.TheVariants.{Done, Slicelet}
use Rattle.c_calls.specs.Arguments.{InForm}
use Rattle.c_calls.specs.Messages.{IsNoteText}
use Rattle.c_calls.specs.Outputs.{IsOneGivenUnlessMemory, Output}
use Rattle.c_calls.specs.declared.slicelets.process.HeldNumbers.{HeldNumbers}

-- the slicelet of a task's new process, where the number is that of a task
abbrev pub resumed_slicelet : ℕ → ℕ → Option SliceletState
resumed_slicelet task life = if is_task task then Some (resumed task life) else None

-- the note for a life that ended, where the numbers are those of a task and of a kind
abbrev pub note_for : ℕ → ℕ → Option Kind → Option ReleaseNote
note_for task life None = None
note_for task life (Some kind) = if is_task task then Some (ended_note task life kind) else None

-- its message, of the job, is given
abbrev pub IsNoteFor : Option (List ℕ) → Option ReleaseNote → Output ℕ → Output ℕ → Answer → Type 0
IsNoteFor job note was now answer = InForm job (now ≡ was) answer (λ job. InForm note (now ≡ was) answer
    (λ note. IsOneGivenUnlessMemory (IsNoteText job note) was now answer))

-- a lease as numbers
abbrev pub held_numbers : Grant → HeldNumbers
held_numbers grant = record { number = grant.number; generation = grant.lease.generation; until = grant.lease.ends }

-- the lease that is held, if there is one
abbrev pub IsLeaseTold : Option Grant → HeldNumbers → HeldNumbers → Answer → Type 0
IsLeaseTold None was now answer = (answer ≡ Slicelet NothingHeld) × (now ≡ was)
IsLeaseTold (Some grant) was now answer = (answer ≡ Done) × (now ≡ held_numbers grant)

-- that of a kind
abbrev pub IsHeldTold : Option Kind → SliceletState → HeldNumbers → HeldNumbers → Answer → Type 0
IsHeldTold kind s was now answer = InForm kind (now ≡ was) answer (λ kind. IsLeaseTold (held_in s kind) was now answer)

-- the number of an action
abbrev pub task_action_number : TaskAction → ℕ
task_action_number Start = 1
task_action_number (Ask Guard) = 2
task_action_number (Ask Bridge) = 3
task_action_number (GiveUp Guard) = 4
task_action_number (GiveUp Bridge) = 5
task_action_number Rest = 6

-- what the task does next in a phase
abbrev pub IsNextTold : Option Phase → SliceletState → ℕ → ℕ → ℕ → Answer → Type 0
IsNextTold phase s at was now answer = InForm phase (now ≡ was) answer
    (λ phase. (answer ≡ Done) × (now ≡ task_action_number (carefully s (next_action s phase at))))
