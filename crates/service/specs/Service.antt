-- The main theorem: what is written for what is read.
use Rattle.std.specs.Prelude.{◌≡◌, ◌⊎◌, ℕ, List, Option, Ok, Err}
use Rattle.serde_json.specs.Data.{Data}
use Rattle.program_io.specs.declared.fault.Fault.{Fault}
use Rattle.faults.specs.declared.script_error.ScriptError.{ScriptError}
use Rattle.faults.specs.declared.script_error.ScriptError.TheVariants.{NotJson}
use Rattle.service.specs.declared.script.Script.{Script}
use Rattle.service.specs.Scripts.{script_of}
use Rattle.service.specs.Output.{IsOutput}
use Rattle.program_io.specs.Json.{IsJson, IsNoJson}
use Rattle.program_io.specs.Endings.{IsAnswered, IsUnanswered}

-- the bytes say this script
pub record SaysScript (bytes : List ℕ) (script : Script) : Type 0 where
  pub value : Data
  pub json : IsJson bytes value
  pub says : script_of value ≡ Ok script

-- a value was read, and it is refused for this
pub record SaysFault (bytes : List ℕ) (f : ScriptError) : Type 0 where
  pub value : Data
  pub json : IsJson bytes value
  pub says : script_of value ≡ Err f

-- the bytes are refused for this
abbrev pub IsRefusedFor : List ℕ → ScriptError → Type 0
IsRefusedFor bytes f = ((f ≡ NotJson) × IsNoJson bytes) ⊎ SaysFault bytes f

-- the bytes say a script, and this is its text
pub record SaysShown (Shows : Script → List ℕ → Type 0) (bytes text : List ℕ) : Type 0 where
  pub script : Script
  pub says : SaysScript bytes script
  pub is : Shows script text

-- all was read, it is a script, and its text was written
abbrev pub Answered : (before after held holds : Option (List ℕ)) → Type 0
Answered before after held holds = IsAnswered (SaysShown IsOutput) before after held holds

-- it was not: a script that is refused, a reader that fails and want of memory leave nothing written, and a writer that fails a first part of the text
abbrev pub Failed : (before after held holds : Option (List ℕ)) → Fault ScriptError → Type 0
Failed before after held holds why = IsUnanswered (SaysShown IsOutput) IsRefusedFor before after held holds why
