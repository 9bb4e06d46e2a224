-- How the command ends, and the status that it exits with.
use Rattle.std.specs.Prelude.{◌≡◌, ◌≢◌, ◌⊎◌, ℕ, List, map, codes, slice_get, Option, Some, Result, Ok, Err, ⊤}
use Rattle.std.specs.Io.KnownBytes.{Appends, Keeps}
use Rattle.clap.specs.Kinds.{IsAmong}
use Rattle.clap.specs.Walk.{Text}
use Rattle.clap.specs.declared.error.kind.ErrorKind.{ErrorKind}
use Rattle.clap.specs.declared.error.kind.ErrorKind.TheVariants as kind
use Rattle.command.specs.declared.arguments.Asked.{Asked}
use Rattle.command.specs.declared.arguments.Asked.TheVariants as asked
use Rattle.command.specs.declared.arguments.Request.{Request}
use Rattle.command.specs.declared.arguments.ScriptText.{ScriptText}
use Rattle.program_io.specs.Status.{status_after}
use Rattle.faults.specs.Faults.{AnswerError}
use Rattle.command.specs.Runs.{IsAnswered, IsFailed}
use Rattle.command.specs.Audits.{IsAuditEnd}
use Rattle.command.specs.Traces.{IsTraceEnd}
use Rattle.command.specs.Sources.{IsReadFrom, IsUnopened}
use Rattle.command.specs.Words.{WordsAsk, word_faults}

-- what was read and written for a script that was answered, or was not
abbrev pub IsPlayed : ScriptText → (full rest held holds : Option (List ℕ)) → Result ⊤ AnswerError → Type 0
IsPlayed text full rest held holds (Ok done) = IsAnswered text full rest held holds
IsPlayed text full rest held holds (Err why) = IsFailed text full rest held holds why

-- input was read for this script
pub record EndsWithInput (request : Request) (before after held holds : Option (List ℕ)) (code : ℕ) : Type 0 where
  pub full : Option (List ℕ)
  pub rest : Option (List ℕ)
  pub read : IsReadFrom request.source before after full rest
  pub answer : Result ⊤ AnswerError
  pub played : IsPlayed request.text full rest held holds answer
  pub status : code ≡ status_after answer

-- the text for help or for the version was written, or memory ran out, or it was written up to a place
abbrev pub IsHelped : (held holds : Option (List ℕ)) → ℕ → Type 0
IsHelped held holds code =
    ((code ≡ 0) × (text : List ℕ) × Appends held holds text)
    ⊎ ((code ≡ 3) × (Keeps held holds ⊎ ((text : List ℕ) × Appends held holds text)))

-- what is written for words that ask for nothing that the command does, for this reason
pub record IsTold (why : ErrorKind) (held holds : Option (List ℕ)) (code : ℕ) : Type 0 where
  pub help : (why ≡ kind.DisplayHelp) ⊎ (why ≡ kind.DisplayVersion) → IsHelped held holds code
  pub memory : why ≡ kind.OutOfMemory → (code ≡ 3) × Keeps held holds
  pub refused : why ≢ kind.DisplayHelp → why ≢ kind.DisplayVersion → why ≢ kind.OutOfMemory → (code ≡ 2) × Keeps held holds

-- no input was read: the words ask for nothing that the command does, or memory ran out
pub record IsWithoutInput (words : List Text) (held holds : Option (List ℕ)) (code : ℕ) : Type 0 where
  pub why : ErrorKind
  pub reason : (why ≡ kind.OutOfMemory) ⊎ IsAmong why (word_faults words)
  pub told : IsTold why held holds code

-- how the command ends, for this script: it reads its input, or its file cannot be opened
abbrev pub EndsBy : Request → (before after held holds : Option (List ℕ)) → ℕ → Type 0
EndsBy request before after held holds code =
    EndsWithInput request before after held holds code ⊎ IsUnopened request.source before after held holds code

-- the words are refused, and nothing was read or written
abbrev pub IsMisused : (before after held holds : Option (List ℕ)) → ℕ → Type 0
IsMisused before after held holds code = (code ≡ 2) × Keeps before after × Keeps held holds

-- how the command ends, for what was asked: a script, an audit of the logs of these names, all of them, or a trace of such logs
abbrev pub EndsFor : Asked → (before after held holds : Option (List ℕ)) → ℕ → Type 0
EndsFor (asked.Play request) before after held holds code = EndsBy request before after held holds code
EndsFor (asked.Audit names progress flags until) before after held holds code =
    IsAuditEnd (map (λ n. n.now) names.items) flags before after held holds code
EndsFor (asked.Trace names flags) before after held holds code =
    IsTraceEnd (map (λ n. n.now) names.items) flags before after held holds code
EndsFor (asked.Misused misuse) before after held holds code = IsMisused before after held holds code

-- these words ask for a subcommand of `hourstable-show`
abbrev pub IsOfShow : List Text → Type 0
IsOfShow words = (slice_get words 1 ≡ Some (codes "explain")) ⊎ (slice_get words 1 ≡ Some (codes "timeline"))

-- how the command ends, for other words: it does what they ask for, or reads nothing
abbrev pub EndsHere : List Text → (before after held holds : Option (List ℕ)) → ℕ → Type 0
EndsHere words before after held holds code =
    ((asked : Asked) × WordsAsk words asked × EndsFor asked before after held holds code)
    ⊎ (Keeps before after × IsWithoutInput words held holds code)

-- how the command ends, for these words
abbrev pub Ends : List Text → (before after held holds : Option (List ℕ)) → ℕ → Type 0
Ends words before after held holds code =
    (IsOfShow words × IsMisused before after held holds code)
    ⊎ ((IsOfShow words → ⊥) × EndsHere words before after held holds code)
