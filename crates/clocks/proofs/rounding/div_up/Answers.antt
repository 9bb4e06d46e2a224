use Rattle.std.proofs.Common.{refl}
use Rattle.clocks.specs.Rounding.{div_up}
use Rattle.clocks.proofs.rounding.div_up.Goals as goal

pub returns : goal.returns
unfolding div_up
returns c = refl
