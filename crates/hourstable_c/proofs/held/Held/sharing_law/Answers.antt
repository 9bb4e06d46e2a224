use Rattle.hourstable_c.proofs.held.Held.TheSendSync.{the_sync}
use Rattle.hourstable_c.proofs.held.Held.sharing_law.Goals as goal

pub returns : goal.returns
returns c = the_sync
