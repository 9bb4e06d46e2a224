use Rattle.log_run.proofs.Doubling.{double_at, rises_at}
use Rattle.log_run.proofs.judging.double.Goals as goal

pub returns-then-ticket-before : goal.returns-then-ticket-before
returns-then-ticket-before c = double_at c.args.entries.now c.loop-i.i _ _ c.loop-i.auto.i c.loop-i-test.true c.loop-i.invariant c.if-ticket-before.true

pub loop-i-preserved : goal.loop-i-preserved
loop-i-preserved c = rises_at c.args.entries.now c.loop-i.i _ _ c.loop-i.auto.i c.loop-i-test.true c.requires c.loop-i.invariant c.if-ticket-before.false
