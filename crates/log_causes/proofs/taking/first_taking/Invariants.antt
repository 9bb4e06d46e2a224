use Rattle.cluster.specs.continued.Jobs.{Continued}
use Rattle.log_run.specs.Starts.{Begins}
use Rattle.log_causes.proofs.Breaking.{IsPlayedWith}
use Rattle.log_causes.proofs.taking.first_taking.Given as goal

-- no call so far took the key away
abbrev pub invariant-loop-index : goal.invariant-loop-index
invariant-loop-index l = (job : Continued) → Begins job l.fn.start → IsPlayedWith job l.entries l.index l.task l.handle l.machines
