-- How the program of live runs ends, and the status that it exits with.
use Rattle.std.specs.Prelude.{◌⊎◌, ℕ, List, Option}
use Rattle.program_io.specs.Endings.{EndsWell, EndsAtFault, EndsAtArguments}
use Rattle.audit.specs.declared.finding.Audit.{Audit}
use Rattle.audit.specs.declared.finding.Audit.TheVariants.{One, No}
use Rattle.live_text.specs.Inputs.{Answered, Failed}

-- the status for what the audit found: 0 where it is one run, and else 4
abbrev pub status_found : Audit → ℕ
status_found (One steps timely) = 0
status_found (No ticket why) = 4

-- how the program ends: the job was run, or not, or the program was given arguments
abbrev pub Ends : Option (List ℕ) → Option (List ℕ) → Option (List ℕ) → Option (List ℕ) → ℕ → Type 0
Ends before after held holds code =
    EndsWell status_found (Answered before after held holds) code ⊎ EndsAtFault (Failed before after held holds) code
    ⊎ EndsAtArguments before after held holds code
