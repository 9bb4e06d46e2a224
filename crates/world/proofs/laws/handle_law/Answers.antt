use Rattle.world.proofs.Handles.{checked_by_history}
use Rattle.world.proofs.laws.handle_law.Goals as goal

pub returns : goal.returns
returns c = λ job past task number at handle answer run inside made familiar. checked_by_history job past task number at handle answer run.0 inside made familiar
