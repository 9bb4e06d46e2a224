-- What a script or a first line is refused for, with the fix.
use Rattle.std.specs.Prelude.{ℕ, List, ◌++◌, map, codes, decimal, string_bytes}
use Rattle.std.specs.Global.{Vec}
use Rattle.program_io.specs.declared.fault.Fault.{Fault}
use Rattle.faults.specs.declared.script_error.ScriptError.{ScriptError}
use Rattle.faults.specs.declared.script_error.ScriptError.TheVariants.{NotJson, NotArray, NoJob, BadJob, TooManySteps, BadStep}
use Rattle.faults.specs.declared.script_fault.ScriptFault.{ScriptFault}

-- why an input is not answered: it is refused for these faults, or not read, or what answers it not written, or memory ran out
abbrev pub AnswerError : Type 0
AnswerError = Fault (Vec ScriptFault)

-- for what faults refuse
abbrev pub refusals : Vec ScriptFault → List ScriptError
refusals faults = map (λ f. f.refusal) faults.items

-- the words for what a script is refused for
abbrev pub refusal_words : ScriptError → List ℕ
refusal_words NotJson = codes "not JSON"
refusal_words NotArray = codes "not an array"
refusal_words NoJob = codes "no job"
refusal_words BadJob = codes "bad job"
refusal_words TooManySteps = codes "too many steps"
refusal_words (BadStep place) = codes "bad step " ++ decimal place

-- a fault in words: what a script is refused for, and how to fix it
abbrev pub fault_words : ScriptFault → List ℕ
fault_words fault = refusal_words fault.refusal ++ (codes ": " ++ string_bytes fault.mend)
