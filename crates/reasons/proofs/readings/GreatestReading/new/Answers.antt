use Rattle.std.proofs.Common.{[], refl}
use Rattle.reasons.proofs.readings.GreatestReading.new.Goals as goal

pub returns : goal.returns
returns c = c.after.ensures [] refl
