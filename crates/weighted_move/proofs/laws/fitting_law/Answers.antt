use Rattle.weighted_move.proofs.Loaded.{most_is, least_stranger_is}
use Rattle.weighted_move.proofs.laws.fitting_law.Goals as goal

pub returns-clause-loses : goal.returns-clause-loses
returns-clause-loses c = most_is

pub returns-clause-gets : goal.returns-clause-gets
returns-clause-gets c = least_stranger_is
