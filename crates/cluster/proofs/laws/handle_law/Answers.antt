use Rattle.cluster.specs.continued.Jobs.{from_start}
use Rattle.cluster.proofs.Ruling.{checked_by_history}
use Rattle.cluster.proofs.laws.handle_law.Goals as goal

pub returns : goal.returns
returns c = λ job past task handle at told run inside given familiar. checked_by_history (from_start job) past task handle at told run.0 inside given familiar
