use Rattle.slicelet.proofs.Hearing.{held_heard, heard_among}
use Rattle.slicelet.proofs.laws.heard_law.Goals as goal

pub returns-clause-held : goal.returns-clause-held
returns-clause-held c = λ kind h grant held. held_heard kind h grant held

pub returns-clause-among : goal.returns-clause-among
returns-clause-among c = λ h grant heard. heard_among h grant heard
