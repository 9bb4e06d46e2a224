use Rattle.command.proofs.Runs.{begins_anew, goes_on}
use Rattle.command.proofs.log_audit.run_after.Goals as goal

pub returns-in-Some : goal.returns-in-Some
returns-in-Some c = λ bytes so_far. begins_anew bytes c.args.piece.now c.args.before so_far c.in-Some.end c.in-Some.ensures.0 c.in-Some.ensures.1

pub returns-in-None : goal.returns-in-None
returns-in-None c = λ bytes so_far. goes_on bytes c.args.piece.now c.args.before so_far c.in-None.ensures
