use Rattle.log_line.specs.Sent.{NonePasses}
use Rattle.log_line.specs.internals.Sending.{sends}
use Rattle.log_line.proofs.sent.first_sender.Given as goal

-- no entry so far sends it
abbrev pub invariant-loop-index : goal.invariant-loop-index
invariant-loop-index l = NonePasses (sends l.sent) l.entries l.fn.from l.index
