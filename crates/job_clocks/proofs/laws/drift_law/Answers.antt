use Rattle.std.proofs.Common.{ℕ, ◌∷◌}
use Rattle.clocks.specs.declared.drift.Drift.{Drift}
use Rattle.job_calls.specs.Jobs.{Job}
use Rattle.cluster.specs.Pasts.{Past, readings}
use Rattle.cluster.specs.Headline.{MayServe}
use Rattle.job_calls.specs.declared.timing.Reading.TheVariants.{TaskClock}
use Rattle.job_clocks.specs.Serving.{MayServeByDrift}
use Rattle.job_clocks.proofs.laws.drift_law.Goals as goal

may : (c : goal.After-interval_law) (drift : ℕ → Drift) (job : Job) (past : Past) (task key : ℕ) → MayServeByDrift drift past task key → MayServe job past task key
may c drift job past task key by =
    (by.at, c.timely_job_law.ensures drift job.policy.skew (TaskClock by.at ∷ readings past) by.within, by.allowed)

pub returns-clause-owner : goal.returns-clause-owner
returns-clause-owner c = λ drift job past task key policy run by.
    c.owner_law.ensures.owner job past task key policy run (may c drift job past task key by)

pub returns-clause-one : goal.returns-clause-one
returns-clause-one c = λ drift job past task other key policy single run by by_other.
    c.owner_law.ensures.one job past task other key policy single run (may c drift job past task key by) (may c drift job past other key by_other)

pub returns-clause-held : goal.returns-clause-held
returns-clause-held c = λ drift job run past task handle policy is within held.
    c.interval_law.ensures.owner job run past task handle policy is (c.timely_job_law.ensures drift job.policy.skew (readings run) within) held

pub returns-clause-alone : goal.returns-clause-alone
returns-clause-alone c = λ drift job run past task other handle policy single is within held by.
    c.interval_law.ensures.alone job run past task other handle policy single is (c.timely_job_law.ensures drift job.policy.skew (readings run) within) held
    (may c drift job past other handle.key by)
