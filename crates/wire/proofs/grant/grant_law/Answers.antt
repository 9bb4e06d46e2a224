use Rattle.std.proofs.Common.{arith}
use Rattle.wire.proofs.Grants.{grant_read}
use Rattle.wire.proofs.grant.grant_law.Goals as goal

pub returns : goal.returns
returns c =
    grant_read c.args.grant.now (omega arith) (omega (arith, c.number-task.ensures.value, c.number-task.ensures.low)) (omega (arith, c.number-task.ensures.value, c.number-task.ensures.high)) c.boundaries-boundaries.ensures.ranges
    (omega arith) (omega arith) (omega arith) (omega arith)
