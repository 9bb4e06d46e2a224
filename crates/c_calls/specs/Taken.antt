-- What a call leaves and answers, by the step that its machine takes.
use Rattle.std.specs.Prelude.{◌≡◌, ◌⊎◌, List, Result, Ok, Err}
use Rattle.machines.specs.declared.machine.Trouble.{Trouble}
use Rattle.machines.specs.declared.machine.Trouble.TheVariants as trouble
use Rattle.c_calls.specs.declared.answer.Answer.{Answer}
use Rattle.c_calls.specs.declared.answer.Answer.TheVariants.{Done, NoMemory, NoRoom}
use Rattle.c_calls.specs.Outputs.{IsGiven, IsTooLong, Output}

-- what is answered of trouble: why the call was refused, or that there is no memory
abbrev pub trouble_answer : {F : Type 0} → (F → Answer) → Trouble F → Answer
trouble_answer refused (trouble.Refused why) = refused why
trouble_answer refused trouble.NoMemory = NoMemory

-- what is answered of a machine's reply
abbrev pub answer_to : {R F : Type 0} → (R → Answer) → (F → Answer) → Result R (Trouble F) → Answer
answer_to done refused (Ok reply) = done reply
answer_to done refused (Err trouble) = trouble_answer refused trouble

-- the call took its step and answered what it gave, or it answered with the refusal and changed nothing
abbrev pub IsStepped : {M R F : Type 0} → (R → Answer) → (F → Answer) → Result (M × R) F → M → M → Answer → Type 0
IsStepped done refused (Ok p) old new answer = (answer ≡ done p.1) × (new ≡ p.0)
IsStepped done refused (Err why) old new answer = (answer ≡ refused why) × (new ≡ old)

-- the same; or memory ran out where the step would be taken, and nothing is changed
abbrev pub IsTaken : {M R F : Type 0} → (R → Answer) → (F → Answer) → Result (M × R) F → M → M → Answer → Type 0
IsTaken done refused (Ok p) old new answer = ((answer ≡ done p.1) × (new ≡ p.0)) ⊎ ((answer ≡ NoMemory) × (new ≡ old))
IsTaken done refused (Err why) old new answer = (answer ≡ refused why) × (new ≡ old)

-- the step stands, and a list that is so of its reply is given; or there is no room for the list, and nothing is changed
pub record IsMadeAndGiven {M R T : Type 0} (is_so : R → List T → Type 0) (p : M × R) (old new : M) (was now : Output T) (answer : Answer) : Type 0 where
  pub list : List T
  pub is : is_so p.1 list
  pub given : ((answer ≡ Done) × (new ≡ p.0) × IsGiven list was.buffer now.buffer now.needed)
      ⊎ ((answer ≡ NoRoom) × (new ≡ old) × IsTooLong list was.buffer now.buffer now.needed)

-- the same; or it is refused, or memory ran out where it would be taken, and nothing is changed
abbrev pub IsStepGiven : {M R F T : Type 0} → (F → Answer) → (R → List T → Type 0) → Result (M × R) F → M → M → Output T → Output T → Answer → Type 0
IsStepGiven refused is_so (Ok p) old new was now answer =
    IsMadeAndGiven is_so p old new was now answer ⊎ ((answer ≡ NoMemory) × (new ≡ old) × (now ≡ was))
IsStepGiven refused is_so (Err why) old new was now answer = (answer ≡ refused why) × (new ≡ old) × (now ≡ was)
