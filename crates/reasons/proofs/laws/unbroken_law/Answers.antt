use Rattle.reasons.proofs.Unbroken.{unbroken_kept}
use Rattle.reasons.proofs.laws.unbroken_law.Goals as goal

pub returns : goal.returns
returns c = λ calls s handle at inside stands broken none.
    unbroken_kept calls s handle at stands none.of_life none.allowed (λ h l. c.state_law.ensures.checked calls s h at l stands) inside none.kept broken
