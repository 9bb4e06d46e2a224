-- What a fault before the first write leaves.
use Rattle.std.proofs.Common.{ℕ, List, Option}
use Rattle.program_io.specs.declared.fault.Fault.{Fault}
use Rattle.program_io.specs.declared.fault.Fault.TheVariants as fault
use Rattle.program_io.specs.Endings.{IsUnanswered}
use Rattle.program_io.specs.Status.{IsUnread}
use Rattle.program_io.specs.Streams.{ReadsAll}
use Rattle.program_io.proofs.Keeping.{keeps_itself}

pub fails_unread : {Refusal : Type 0} (Answers : List ℕ → List ℕ → Type 0) (Refuses : List ℕ → Refusal → Type 0) (before after held : Option (List ℕ)) (bytes : List ℕ) (e : Fault Refusal)
    → ReadsAll before after bytes → IsUnread (Refuses bytes) e → IsUnanswered Answers Refuses before after held held e
fails_unread Answers Refuses before after held bytes (fault.Input why) reads says = (record { bytes = bytes; reads = reads; says = says }, keeps_itself held)
fails_unread Answers Refuses before after held bytes fault.Read reads says = absurd says
fails_unread Answers Refuses before after held bytes fault.Write reads says = absurd says
fails_unread Answers Refuses before after held bytes fault.Memory reads says = keeps_itself held
