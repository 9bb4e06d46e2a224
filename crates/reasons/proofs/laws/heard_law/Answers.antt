use Rattle.reasons.proofs.HeardAt.{heard_place}
use Rattle.reasons.proofs.laws.heard_law.Goals as goal

pub returns : goal.returns
returns c = λ placed past task kind grant place are held heard. heard_place task kind grant place placed past are held heard
