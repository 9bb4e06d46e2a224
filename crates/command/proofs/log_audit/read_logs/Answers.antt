use Rattle.std.proofs.Common.{arith}
use Rattle.command.proofs.Logs.{no_logs, no_more, one_more}
use Rattle.command.proofs.log_audit.read_logs.Goals as goal

pub loop-name-init : goal.loop-name-init
loop-name-init g c = λ front reading. no_logs front _ c.args.log reading

pub loop-name-preserved : goal.loop-name-preserved
loop-name-preserved g c = λ front reading.
    one_more (λ n. n.now) _ c.loop-name.name-index _ front _ _ _ _ _ c.loop-name-test.true (c.loop-name.invariant front reading)
    (λ files known. c.in_ok-log.ensures.ok files known)

pub returns-clause-ok : goal.returns-clause-ok
returns-clause-ok g c = λ front reading.
    no_more (λ n. n.now) c.args.names.now c.loop-name.name-index front _ _ _ (grind arith) (c.loop-name.invariant front reading)
