-- What `hourstable run` writes for what it reads.
use Rattle.std.specs.Prelude.{◌≡◌, ◌⊎◌, ℕ, suc, List, [], ◌∷◌, ◌++◌, Bool, codes, decimal, Option, option_map}
use Rattle.std.specs.Global.{Vec}
use Rattle.serde_json.specs.Data.{Data}
use Rattle.world.specs.declared.step.Step.{Step}
use Rattle.replies.specs.declared.reply.Reply.{Reply}
use Rattle.program_io.specs.Json.{IsJson, IsNoJson}
use Rattle.program_io.specs.Endings.{IsAnswered as IsAnsweredBy, IsUnanswered}
use Rattle.faults.specs.declared.script_error.ScriptError.{ScriptError}
use Rattle.faults.specs.declared.script_error.ScriptError.TheVariants.{NotJson}
use Rattle.service.specs.declared.script.Script.{Script}
use Rattle.replies.specs.Lines.{line_of}
use Rattle.service.specs.Output.{timely_line, IsOutput}
use Rattle.service.specs.Service.{SaysShown, IsRefusedFor}
use Rattle.faults.specs.declared.script_fault.ScriptFault.{ScriptFault}
use Rattle.faults.specs.Faults.{AnswerError, refusals}
use Rattle.diagnosis.specs.Faults.{refusals_of}
use Rattle.call_values.specs.Words.{step_word}
use Rattle.trace_text.specs.Texts.{IsTraceText}
use Rattle.command.specs.declared.arguments.ScriptText.{ScriptText}
use Rattle.command.specs.declared.arguments.ScriptText.TheVariants as show

-- the line of a reply, after the number of its element and the name of its step
abbrev pub numbered_line : ℕ → Step → Reply → List ℕ
numbered_line place step reply = decimal place ++ codes " " ++ step_word step ++ codes ": " ++ line_of reply

-- the lines of replies; the first step is the element at this place
abbrev pub numbered_lines : ℕ → List Step → List Reply → List ℕ
numbered_lines place (s ∷ steps) (r ∷ replies) = numbered_line place s r ++ numbered_lines (suc place) steps replies
numbered_lines place _ _ = []

-- the numbered lines and the last line
abbrev pub numbered_text : List Step → List Reply → Bool → List ℕ
numbered_text steps replies timely = numbered_lines 1 steps replies ++ timely_line timely

-- the text of a script with numbers: its lines are those of the text without, each after the number and the name of its step
pub record IsShownNumbered (script : Script) (text : List ℕ) : Type 0 where
  pub plain : List ℕ
  pub output : IsOutput script plain
  pub lines : text ≡ numbered_text script.steps output.replies output.timely

-- what is written of a script: the text without numbers or with them, or its trace
abbrev pub IsShown : ScriptText → Script → List ℕ → Type 0
IsShown show.Lines script text = IsOutput script text
IsShown show.Numbered script text = IsShownNumbered script text
IsShown (show.Traced key) script text = IsTraceText script.job (option_map (λ k. k.now) key) script.steps text

-- a value was read, which is no script, and these are its faults
pub record HasFaults (bytes : List ℕ) (refusals : List ScriptError) : Type 0 where
  pub value : Data
  pub json : IsJson bytes value
  pub are : refusals ≡ refusals_of value

-- the bytes are refused for these: the first is the one that the script is refused for, and the others are those of the elements after it
pub record AreFaults (bytes : List ℕ) (refusals : List ScriptError) : Type 0 where
  pub first : ScriptError
  pub others : List ScriptError
  pub are : refusals ≡ first ∷ others
  pub refused : IsRefusedFor bytes first
  pub all : ((refusals ≡ NotJson ∷ []) × IsNoJson bytes) ⊎ HasFaults bytes refusals

-- the bytes are refused for these
abbrev pub AreFaultsOf : List ℕ → Vec ScriptFault → Type 0
AreFaultsOf bytes faults = AreFaults bytes (refusals faults)

-- all was read, it is a script, and its text was written
abbrev pub IsAnswered : ScriptText → (before after held holds : Option (List ℕ)) → Type 0
IsAnswered show before after held holds = IsAnsweredBy (SaysShown (IsShown show)) before after held holds

-- no whole text was written
abbrev pub IsFailed : ScriptText → (before after held holds : Option (List ℕ)) → AnswerError → Type 0
IsFailed show before after held holds why = IsUnanswered (SaysShown (IsShown show)) AreFaultsOf before after held holds why
