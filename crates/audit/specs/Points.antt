-- What an audit's run says of one call in it.
use Rattle.std.specs.Prelude.{◌≡◌, ◌∷◌, ◌++◌, List}
use Rattle.job_calls.specs.Jobs.{Job}
use Rattle.job_calls.specs.declared.reply.ClusterReply.{ClusterReply}
use Rattle.cluster.specs.Pasts.{event, Past, readings}
use Rattle.cluster.specs.Timing.{IsTimely}
use Rattle.cluster.specs.Runs.{IsRun}
use Rattle.audit.specs.OneRun.{Turn, Fits, IsPastOf}

-- a turn with what the cluster replied to it, and the events before it: those of the turns before it
pub record IsPoint (job : Job) (past : Past) (before : List Turn) (turn : Turn) (earlier : Past) (answer : ClusterReply) : Type 0 where
  pub later : Past
  pub whole : past ≡ later ++ event turn.call answer ∷ earlier
  pub told : IsPastOf before earlier
  pub fits : Fits answer turn.told
  pub answered : IsRun job (event turn.call answer ∷ earlier)
  pub clocks : IsTimely job.policy.skew (readings past) → IsTimely job.policy.skew (readings (event turn.call answer ∷ earlier))
