use Rattle.std.proofs.Common.{◌∷◌}
use Rattle.job_calls.specs.declared.timing.Reading.TheVariants.{TaskClock}
use Rattle.cluster.specs.Pasts.{readings}
use Rattle.job_clocks.proofs.Telling.{sent_was_read, ahead, silent}
use Rattle.job_clocks.proofs.laws.evidence_law.Goals as goal

pub returns-clause-sent : goal.returns-clause-sent
returns-clause-sent c = λ job past grant run sent. sent_was_read job past grant (c.told_law.ensures.table job past run) sent

pub returns-clause-shows : goal.returns-clause-shows
returns-clause-shows c = λ job past grant at run sent above.
    ahead job past grant at (sent_was_read job past grant (c.told_law.ensures.table job past run) sent) above

pub returns-clause-drift : goal.returns-clause-drift
returns-clause-drift c = λ drift job past grant at run sent above within.
    ahead job past grant at (sent_was_read job past grant (c.told_law.ensures.table job past run) sent) above
    (c.timely_job_law.ensures drift job.policy.skew (TaskClock at ∷ readings past) within)

pub returns-clause-silent : goal.returns-clause-silent
returns-clause-silent c = silent
