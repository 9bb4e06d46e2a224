use Rattle.assigner.proofs.Greatest.{keeps_greatest}
use Rattle.assigner.proofs.laws.terms_law.Goals as goal

pub returns : goal.returns
returns c = λ id calls. keeps_greatest id calls
