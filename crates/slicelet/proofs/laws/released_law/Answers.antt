use Rattle.slicelet.proofs.OwnLeases.{above_released}
use Rattle.slicelet.proofs.laws.released_law.Goals as goal

pub returns : goal.returns
returns c = λ task grant at h accepted. above_released task grant at h accepted
