use Rattle.std.proofs.Common.{arith}
use Rattle.wire.proofs.KeptValues.{kept_read}
use Rattle.wire.proofs.kept.kept_law.Goals as goal

pub returns : goal.returns
returns c =
    kept_read c.args.kept.now c.policy_law.ensures c.term_law.ensures c.optional_law.ensures c.optional_law-2.ensures (omega arith) (omega arith) (omega arith)
