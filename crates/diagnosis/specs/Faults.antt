-- The faults of a script.
use Rattle.std.specs.Prelude.{ℕ, suc, List, [], ◌∷◌, ◌++◌, map, take, codes, decimal, string_bytes, Result, Ok, Err}
use Rattle.std.specs.Global.{Vec}
use Rattle.serde_json.specs.Data.{Data}
use Rattle.world.specs.Jobs.{Job}
use Rattle.world.specs.declared.step.Step.{Step}
use Rattle.program_io.specs.declared.fault.Fault.{Fault}
use Rattle.program_io.specs.declared.fault.WrongForm.{WrongForm}
use Rattle.faults.specs.declared.script_error.ScriptError.{ScriptError}
use Rattle.faults.specs.declared.script_error.ScriptError.TheVariants.{NotJson, NotArray, NoJob, BadJob, TooManySteps, BadStep}
use Rattle.service.specs.Scripts.{head_of}
use Rattle.service.specs.Steps.{step_of}
use Rattle.faults.specs.declared.script_fault.ScriptFault.{ScriptFault}
use Rattle.diagnosis.specs.declared.script_faults.TheConstants.{MOST_FAULTS}

-- the refusal of the element at this place, where it is no step, before others
abbrev pub before : Result Step WrongForm → ℕ → List ScriptError → List ScriptError
before (Ok step) place others = others
before (Err e) place others = BadStep place ∷ others

-- the refusal of each element that is no step; the first is at this place
abbrev pub bad_steps : Job → ℕ → List Data → List ScriptError
bad_steps job place [] = []
bad_steps job place (d ∷ ds) = before (step_of job d) place (bad_steps job (suc place) ds)

-- the first of them, where the elements are those after the job line
unfoldable pub bad_steps_in : Job → List Data → List ScriptError
bad_steps_in job elements = take MOST_FAULTS (bad_steps job 1 elements)

-- what there is to mend after the job line was read, or before
abbrev pub refusals_after : Result (Job × List Data) ScriptError → List ScriptError
refusals_after (Ok head) = bad_steps_in head.0 head.1
refusals_after (Err why) = why ∷ []

-- the refusals that are told of a value
unfoldable pub refusals_of : Data → List ScriptError
refusals_of d = refusals_after (head_of d)
