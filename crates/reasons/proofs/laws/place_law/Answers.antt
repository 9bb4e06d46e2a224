use Rattle.reasons.proofs.CallAt.{call_place}
use Rattle.reasons.proofs.laws.place_law.Goals as goal

pub returns : goal.returns
returns c = λ placed past task number place are kept. call_place placed past task number place are kept
