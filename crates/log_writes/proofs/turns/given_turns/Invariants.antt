use Rattle.std.proofs.Common.{take}
use Rattle.cluster.specs.continued.Jobs.{Continued}
use Rattle.log_run.specs.Starts.{Begins}
use Rattle.log_writes.proofs.Playing.{IsGivenTo}
use Rattle.log_writes.proofs.turns.given_turns.Given as goal

-- the calls so far gave these tokens
abbrev pub invariant-loop-index : goal.invariant-loop-index
invariant-loop-index l = (job : Continued) → Begins job l.fn.start → IsGivenTo job (take l.index l.entries) l.machines l.turns.items
