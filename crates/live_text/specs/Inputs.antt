-- What is written for what is read.
use Rattle.std.specs.Prelude.{◌≡◌, ◌⊎◌, ℕ, List, Option, Ok}
use Rattle.serde_json.specs.Data.{Data}
use Rattle.program_io.specs.declared.fault.Fault.{Fault}
use Rattle.program_io.specs.Endings.{IsAnswered, IsUnanswered}
use Rattle.program_io.specs.Json.{IsJson, IsNoJson}
use Rattle.live_run.specs.LiveJobs.{LiveSizes}
use Rattle.live_run.specs.Reports.{IsReported}
use Rattle.live_run.specs.declared.report.LiveReport.{LiveReport}
use Rattle.audit.specs.declared.finding.Audit.{Audit}
use Rattle.live_text.specs.declared.fault.InputError.{InputError}
use Rattle.live_text.specs.Jobs.{live_job_of}
use Rattle.live_text.specs.Lines.{live_text}

-- the bytes say this job
pub record SaysJob (bytes : List ℕ) (job : LiveSizes) : Type 0 where
  pub value : Data
  pub json : IsJson bytes value
  pub says : live_job_of value ≡ Ok job

-- the bytes are no JSON text, or their value says no job
pub record SaysNone (bytes : List ℕ) : Type 0 where
  pub value : Data
  pub json : IsJson bytes value
  pub wrong : (job : LiveSizes) → live_job_of value ≡ Ok job → ⊥

abbrev pub IsRefused : List ℕ → Type 0
IsRefused bytes = IsNoJson bytes ⊎ SaysNone bytes

-- the bytes say a job, and this is the text of a report of the job, whose audit found this
pub record SaysRun (found : Audit) (bytes text : List ℕ) : Type 0 where
  pub job : LiveSizes
  pub says : SaysJob bytes job
  pub report : LiveReport
  pub reported : IsReported job report
  pub audited : found ≡ report.audit
  pub is : text ≡ live_text report.asked report.generation report.audit

-- the same, whatever was found
abbrev pub SaysSomeRun : List ℕ → List ℕ → Type 0
SaysSomeRun bytes text = (found : Audit) × SaysRun found bytes text

-- all was read, it says a job, which was run, and its text was written
abbrev pub Answered : (before after held holds : Option (List ℕ)) → Audit → Type 0
Answered before after held holds found = IsAnswered (SaysRun found) before after held holds

-- no whole text was written
abbrev pub Failed : (before after held holds : Option (List ℕ)) → Fault InputError → Type 0
Failed before after held holds why = IsUnanswered SaysSomeRun (λ bytes refusal. IsRefused bytes) before after held holds why
