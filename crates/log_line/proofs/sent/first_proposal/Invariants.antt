use Rattle.log_line.specs.Sent.{NonePasses, sends_proposal}
use Rattle.log_line.proofs.sent.first_proposal.Given as goal

-- no entry so far proposes it
abbrev pub invariant-loop-index : goal.invariant-loop-index
invariant-loop-index l = NonePasses (sends_proposal l.other l.assignment) l.entries 0 l.index
