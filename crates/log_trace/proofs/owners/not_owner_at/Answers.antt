use Rattle.log_trace.proofs.Owning.{nobody_at}
use Rattle.log_trace.proofs.owners.not_owner_at.Goals as goal

pub returns-in-None : goal.returns-in-None
returns-in-None c = nobody_at c.args.table.now c.args.task c.args.key c.in-None.ensures
