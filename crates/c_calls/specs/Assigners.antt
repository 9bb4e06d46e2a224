-- The calls of an assigner, by numbers.
use Rattle.std.specs.Prelude.{◌≡◌, ℕ, ◌==◌, not, Option, Some, None, if◌then◌else◌}
use Rattle.grants.specs.declared.values.JobTerm.{JobTerm}
use Rattle.grants.specs.declared.values.Phase.{Phase}
use Rattle.grants.specs.JobTerms.{last_number}
use Rattle.assigner.specs.declared.action.Action.{Action}
use Rattle.assigner.specs.declared.action.Action.TheVariants.{Take, Renew, Commit, Propose, Rest}
use Rattle.assigner.specs.declared.action.View.{View}
use Rattle.assigner.specs.Actions.{next_action}
use Rattle.assigner.specs.Terms.{Keeping, is_adopted, opening}
use Rattle.c_calls.specs.declared.answer.Answer.{Answer}
use Rattle.c_calls.specs.declared.answer.Answer.TheVariants.{Done, NotAdopted}
use Rattle.c_calls.specs.Arguments.{InForm}

-- the assigner of a number before its first call; 0 is none
abbrev pub opened_assigner : ℕ → ℕ → Option Keeping
opened_assigner id job = if id == 0 then None else Some (opening id job)

-- the number of an action
abbrev pub assigner_action_number : Action → ℕ
assigner_action_number Take = 1
assigner_action_number Renew = 2
assigner_action_number Commit = 3
assigner_action_number Propose = 4
assigner_action_number Rest = 5

-- what is answered where a term is offered
abbrev pub adopt_answer : Keeping → JobTerm → Answer
adopt_answer a term = if is_adopted a.id term a.term then Done else NotAdopted

-- what an assigner looks at, where numbers say a phase; another assignment is wanted where the number is not 0
abbrev pub view_of : ℕ → Phase → ℕ → View
view_of reading phase wanted = record { reading = reading; phase = phase; wanted = not (wanted == 0) }

-- what an assigner says: its next action, and the number of the term that it keeps
pub record Next : Type 0 where
  pub action : ℕ
  pub number : ℕ

abbrev pub next_numbers : ℕ → ℕ → Next
next_numbers action number = record { action = action; number = number }

-- it says them of a view
abbrev pub IsNext : Option Phase → Keeping → ℕ → ℕ → Next → Next → Answer → Type 0
IsNext phase a reading wanted was now answer = InForm phase (now ≡ was) answer (λ phase.
    (answer ≡ Done) × (now ≡ next_numbers (assigner_action_number (next_action a (view_of reading phase wanted))) (last_number a.term)))
