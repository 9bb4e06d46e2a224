-- What a layer below refuses, as a step's refusal.
use Rattle.machines.specs.declared.machine.Trouble.{Trouble}
use Rattle.machines.specs.declared.machine.Trouble.TheVariants.{Refused, NoMemory}
use Rattle.replies.specs.declared.reply.Refusal.{Refusal}

abbrev pub of_layer : {E : Type 0} → (E → Refusal) → Trouble E → Trouble Refusal
of_layer refused (Refused why) = Refused (refused why)
of_layer refused NoMemory = NoMemory
