use Rattle.reasons.proofs.LastDenied.{last_denied}
use Rattle.reasons.proofs.laws.taken_law.Goals as goal

pub returns : goal.returns
returns c = λ calls s handle at call inside stands breaks.
    last_denied calls s handle at call stands inside (λ h l. c.state_law.ensures.checked calls s h at l stands) breaks
