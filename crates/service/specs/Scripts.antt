-- What a script says, or why it is refused.
use Rattle.std.specs.Prelude.{◌≡◌, ℕ, List, [], ◌∷◌, length, nat_le, ⊤, IsTrue, is_ok, Result, Ok, Err}
use Rattle.serde_json.specs.Data.{Data}
use Rattle.world.specs.Jobs.{Job}
use Rattle.world.specs.declared.step.Step.{Step}
use Rattle.program_io.specs.declared.fault.WrongForm.{WrongForm}
use Rattle.faults.specs.declared.script_error.ScriptError.{ScriptError}
use Rattle.faults.specs.declared.script_error.ScriptError.TheVariants.{NotArray, NoJob, BadJob, TooManySteps, BadStep}
use Rattle.program_io.specs.declared.fault.Fault.{Fault}
use Rattle.program_io.specs.declared.fault.Fault.TheVariants as fault
use Rattle.service.specs.declared.script.Script.{Script}
use Rattle.program_io.specs.Status.{IsUnread}
use Rattle.program_io.specs.Reading.{◌>>=◌, ◌>>◌, check, in_turn}
use Rattle.program_io.specs.Members.{array_of}
use Rattle.replies.specs.Jobs.{job_member, script_job_of}
use Rattle.service.specs.Steps.{step_of}

-- what is read, or this refusal
abbrev pub or_refuse : {A : Type 0} → ScriptError → Result A WrongForm → Result A ScriptError
or_refuse refusal (Ok x) = Ok x
or_refuse refusal (Err e) = Err refusal

-- the job line, and the elements after it
abbrev pub parts_of : List Data → Result (Data × List Data) ScriptError
parts_of [] = Err NoJob
parts_of (line ∷ elements) = Ok (line, elements)

-- the job, and the elements after the job line
unfoldable pub head_of : Data → Result (Job × List Data) ScriptError
head_of d = do
  elements ← or_refuse NotArray (array_of d)
  parts ← parts_of elements
  line ← or_refuse NoJob (job_member parts.0)
  job ← or_refuse BadJob (script_job_of line)
  check (nat_le (length parts.1) 4096) TooManySteps
  Ok (job, parts.1)

-- the step that the element at this place says
abbrev pub step_at : Job → ℕ → Data → Result Step ScriptError
step_at job place d = or_refuse (BadStep place) (step_of job d)

-- the steps that the elements after the job line say, or the first element that says none
unfoldable pub steps_of : Job → List Data → Result (List Step) ScriptError
steps_of job elements = in_turn (step_at job) 1 elements

-- the script that a JSON value says, or the first refusal of it
unfoldable pub script_of : Data → Result Script ScriptError
script_of d = do
  head ← head_of d
  steps ← steps_of head.0 head.1
  Ok (record { job = head.0; steps = steps })

-- what a function returned, seen by f, is what is read
abbrev pub IsReadOrRefused : {X A : Type 0} → (X → A) → Result X ScriptError → Result A ScriptError → Type 0
IsReadOrRefused f (Ok x) read = read ≡ Ok (f x)
IsReadOrRefused f (Err refusal) read = read ≡ Err refusal

-- what a function returned is what is read, unless memory ran out
abbrev pub Answers : {A : Type 0} → Result A (Fault ScriptError) → Result A ScriptError → Type 0
Answers (Ok x) read = read ≡ Ok x
Answers (Err e) read = IsUnread (λ refusal. read ≡ Err refusal) e

-- why no script was read of a value: it is refused, or memory ran out where only a step can be refused
abbrev pub FailsScript : Fault ScriptError → Data → Type 0
FailsScript (fault.Input refusal) d = script_of d ≡ Err refusal
FailsScript fault.Read d = ⊥
FailsScript fault.Write d = ⊥
FailsScript fault.Memory d = IsTrue (is_ok (head_of d))

-- what a function returned is the script that the value says, unless memory ran out
abbrev pub AnswersScript : Result Script (Fault ScriptError) → Data → Type 0
AnswersScript (Ok script) d = script_of d ≡ Ok script
AnswersScript (Err e) d = FailsScript e d
