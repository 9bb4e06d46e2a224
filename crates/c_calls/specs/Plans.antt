-- Plans of the assignment of the next generation, by numbers.
use Rattle.std.specs.Prelude.{◌≡◌, ℕ, ◌+◌, ◌^◌, ◌&&◌, nat_lt, Bool, true, false, List, codes, Option, Some, None, Result}
use Rattle.std.specs.List.{list_all}
use Rattle.assignment.specs.declared.slice.Slice.{Slice}
use Rattle.assignment.specs.Slices.{Slicing, is_task}
use Rattle.assignment.specs.Owners.{built}
use Rattle.weighted_move.specs.declared.error.PlanError.{PlanError}
use Rattle.weighted_move.specs.declared.slice_plan.Plan.{Plan}
use Rattle.weighted_move.specs.Owning.{rise_from}
use Rattle.weighted_move.specs.Plans.{IsPlan, plan_refusal}
use Rattle.weighted_move.specs.Policies.{PlanTerms, is_policy}
use Rattle.wire.specs.Assignments.{assignment_of}
use Rattle.wire.specs.declared.fault.DecodeError.{DecodeError}
use Rattle.c_calls.specs.declared.answer.Answer.{Answer}
use Rattle.c_calls.specs.declared.answer.Answer.TheVariants as answers
use Rattle.c_calls.specs.Arguments.{InForm}
use Rattle.c_calls.specs.Messages.{IsAssignmentText}
use Rattle.c_calls.specs.Outputs.{IsOneGivenUnlessMemory, Output}
use Rattle.c_calls.specs.Reading.{IsReadFrom, OnRead}

-- what a plan is asked for: the load of each slice, the tasks, and what it is held to
pub record Wanted : Type 0 where
  pub loads : List ℕ
  pub tasks : List ℕ
  pub terms : PlanTerms

abbrev pub wanted : List ℕ → List ℕ → PlanTerms → Wanted
wanted loads tasks terms = record { loads = loads; tasks = tasks; terms = terms }

-- numbers are tasks that rise strictly
abbrev pub are_tasks : List ℕ → Bool
are_tasks numbers = list_all is_task numbers && rise_from 1 numbers

-- the numbers are within their limits, and there is a generation after that of the assignment
abbrev pub is_in_form : Slicing → Wanted → Bool
is_in_form slicing w = is_policy w.terms && nat_lt (slicing.generation + 1) (2 ^ 64) && are_tasks w.tasks

-- the assignment of a generation that is built of the slices that a plan makes of others
pub record IsPlanMade (generation : ℕ) (slices : List Slice) (w : Wanted) (next : Slicing) : Type 0 where
  pub plan : Plan
  pub planned : IsPlan slices w.loads w.tasks w.terms plan
  pub is : next ≡ built generation plan.slices

-- an assignment of the next generation that a plan makes, and its message
pub record IsNextText (job : List ℕ) (slicing : Slicing) (w : Wanted) (text : List ℕ) : Type 0 where
  pub next : Slicing
  pub made : IsPlanMade (slicing.generation + 1) slicing.slices w next
  pub is : IsAssignmentText job next text

-- why there is no plan, if there is none: a number is not within its limits, or the planner refuses
abbrev pub answer_with : Bool → Option PlanError → Option Answer
answer_with false refusal = Some answers.WrongForm
answer_with true None = None
answer_with true (Some why) = Some (answers.Plan why)

abbrev pub no_plan : Slicing → Wanted → Option Answer
no_plan slicing w = answer_with (is_in_form slicing w) (plan_refusal slicing.slices w.loads w.tasks)

-- what is answered where there is no message: why there is no plan, or that memory ran out
abbrev pub unless_planned : Option Answer → Answer
unless_planned None = answers.NoMemory
unless_planned (Some answer) = answer

abbrev pub IsUnplanned : Slicing → Wanted → Answer → Type 0
IsUnplanned slicing w answer = answer ≡ unless_planned (no_plan slicing w)

-- there is no plan for this reason; or the message of one is given, or there is no room for it, or memory ran out
abbrev pub IsPlanAnswer : List ℕ → Option Answer → Slicing → Wanted → Output ℕ → Output ℕ → Answer → Type 0
IsPlanAnswer job (Some why) slicing w was now answer = (answer ≡ why) × (now ≡ was)
IsPlanAnswer job None slicing w was now answer = IsOneGivenUnlessMemory (IsNextText job slicing w) was now answer

-- a plan of the assignment that was read
abbrev pub IsPlanned : List ℕ → Wanted → Output ℕ → Output ℕ → Answer → Result Slicing DecodeError → Type 0
IsPlanned job w was now answer = OnRead (now ≡ was) answer (λ slicing. IsPlanAnswer job (no_plan slicing w) slicing w was now answer)

-- the bytes are read as an assignment of the job
abbrev pub IsPlannedFor : Option (List ℕ) → List ℕ → Wanted → Output ℕ → Output ℕ → Answer → Type 0
IsPlannedFor job bytes w was now answer = InForm job (now ≡ was) answer
    (λ job. IsReadFrom job (codes "assignment") assignment_of bytes (IsPlanned job w was now answer))
