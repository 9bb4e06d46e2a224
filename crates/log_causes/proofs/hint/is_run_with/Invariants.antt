use Rattle.std.proofs.Common.{take}
use Rattle.cluster.specs.continued.Jobs.{Continued}
use Rattle.log_causes.specs.Hints.{with_open}
use Rattle.log_run.specs.Starts.{Begins}
use Rattle.log_run.proofs.Replaying.{IsPlayedTo}
use Rattle.log_causes.proofs.hint.is_run_with.Given as goal

-- the entries so far are a run
abbrev pub invariant-loop-index : goal.invariant-loop-index
invariant-loop-index l = (job : Continued) → Begins job l.fn.start → IsPlayedTo job (take l.index (with_open l.place l.line l.entries)) l.machines
