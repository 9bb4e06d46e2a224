use Rattle.slicelet.specs.States.{state_after}
use Rattle.slicelet.proofs.Accepting.{resume_accepted}
use Rattle.slicelet.proofs.OwnLeases.{life_rises, lives_rise}
use Rattle.slicelet.proofs.laws.lives_law.Goals as goal

pub returns-clause-start : goal.returns-clause-start
returns-clause-start c = λ task life at h accepted. life_rises task life at h accepted.0

pub returns-clause-resume : goal.returns-clause-resume
returns-clause-resume c = λ task life h accepted. resume_accepted (state_after task h) life accepted.0

pub returns-clause-later : goal.returns-clause-later
returns-clause-later c = λ task later h accepted. lives_rise task later h accepted
