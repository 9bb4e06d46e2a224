use Rattle.std.proofs.Common.{take}
use Rattle.cluster.specs.continued.Jobs.{Continued}
use Rattle.log_run.specs.Starts.{Begins}
use Rattle.log_run.proofs.Replaying.{IsPlayedTo}
use Rattle.log_run.proofs.judging.replay.Given as goal

-- the calls so far are a run
abbrev pub invariant-loop-index : goal.invariant-loop-index
invariant-loop-index g l = (job : Continued) → Begins job l.fn.start → IsPlayedTo job (take l.index l.entries) l.machines
