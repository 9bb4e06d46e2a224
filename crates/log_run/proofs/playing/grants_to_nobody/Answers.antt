use Rattle.log_run.proofs.Restored.{granted_more}
use Rattle.log_run.proofs.playing.grants_to_nobody.Goals as goal

pub loop-preserved : goal.loop-preserved
loop-preserved c = λ job past leads.
    granted_more job past c.loop.counter c.args.at c.loop.machines c.grant_to_nobody.new.machines (c.loop.invariant job past leads)
    (λ p l. (_, c.in_ok-grant_to_nobody.ensures job p l))
