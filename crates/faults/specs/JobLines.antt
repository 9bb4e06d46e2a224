-- What the job line says, which is the first line of a log.
use Rattle.std.specs.Prelude.{◌≡◌, ◌⊎◌, ℕ, true, false, List, [], ◌∷◌, codes, Option, ⊤, Ok, Err}
use Rattle.std.specs.Global.{Vec}
use Rattle.serde_json.specs.Data.{Data}
use Rattle.job_calls.specs.Jobs.{Job}
use Rattle.program_io.specs.declared.fault.Fault.TheVariants as fault
use Rattle.program_io.specs.Json.{HasRepeatedMember, IsNoJson, IsStrictJson}
use Rattle.program_io.specs.Lines.{IsNext, is_long}
use Rattle.program_io.specs.Members.{wrong}
use Rattle.program_io.specs.Status.{IsUnread}
use Rattle.faults.specs.declared.script_error.ScriptError.{ScriptError}
use Rattle.faults.specs.declared.script_error.ScriptError.TheVariants.{NotJson, NoJob, BadJob}
use Rattle.replies.specs.Jobs.{job_member, job_of}
use Rattle.faults.specs.declared.script_fault.ScriptFault.{ScriptFault}
use Rattle.faults.specs.Faults.{AnswerError, refusals}

-- the line is a JSON text whose one member `job` is this job
pub record SaysJob (line : List ℕ) (job : Job) : Type 0 where
  pub value : Data
  pub json : IsStrictJson line value
  pub member : Data
  pub has : job_member value ≡ Ok member
  pub says : job_of member ≡ Ok job

-- the line is a JSON text of no job line
pub record HasNoJob (line : List ℕ) : Type 0 where
  pub value : Data
  pub json : IsStrictJson line value
  pub says : job_member value ≡ Err wrong

-- the line is a JSON text of a job line whose job is none
pub record HasBadJob (line : List ℕ) : Type 0 where
  pub value : Data
  pub json : IsStrictJson line value
  pub member : Data
  pub has : job_member value ≡ Ok member
  pub says : job_of member ≡ Err wrong

-- for what a first line is refused
abbrev pub IsNoJobFor : List ℕ → List ScriptError → Type 0
IsNoJobFor line refusals =
    ((refusals ≡ NotJson ∷ []) × IsNoJson line) ⊎ ((refusals ≡ BadJob ∷ []) × HasRepeatedMember line)
    ⊎ ((refusals ≡ NoJob ∷ []) × HasNoJob line) ⊎ ((refusals ≡ BadJob ∷ []) × HasBadJob line)

-- why a first line gives no job
abbrev pub IsNoJob : List ℕ → AnswerError → Type 0
IsNoJob line why = IsUnread (λ (faults : Vec ScriptFault). IsNoJobFor line (refusals faults)) why
