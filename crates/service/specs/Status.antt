-- How the program ends, and the status that it exits with.
use Rattle.std.specs.Prelude.{◌⊎◌, ℕ, List, Option, ⊤}
use Rattle.program_io.specs.Endings.{EndsWell, EndsAtFault, EndsAtArguments}
use Rattle.service.specs.Service.{Answered, Failed}

-- the script was answered, or not, or the program was given arguments
abbrev pub Ends : Option (List ℕ) → Option (List ℕ) → Option (List ℕ) → Option (List ℕ) → ℕ → Type 0
Ends before after held holds code =
    EndsWell {Value = ⊤} (λ done. 0) (λ done. Answered before after held holds) code ⊎ EndsAtFault (Failed before after held holds) code
    ⊎ EndsAtArguments before after held holds code
