use Rattle.audit.proofs.Answering.{served_may}
use Rattle.audit.proofs.laws.served_law.Goals as goal

pub returns : goal.returns
returns c = λ job past earlier before turn answer task key at generation kind timely point asked said.
    served_may job past earlier before turn answer point task key at generation kind timely asked said
