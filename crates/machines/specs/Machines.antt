-- What a machine does with an event.
use Rattle.std.specs.Prelude.{Result}
use Rattle.machines.specs.declared.machine.Trouble.{Trouble}
use Rattle.machines.specs.Answers.{Takes}

-- an event was taken as the step says, or it was not and the machine stays as it was; it runs out of memory only where the step would take it
abbrev pub IsApplied : {M E R F : Type 0} → (M → E → Result (M × R) F) → M → E → Result R (Trouble F) → M → Type 0
IsApplied step old event result new = Takes (step old event) old result new
