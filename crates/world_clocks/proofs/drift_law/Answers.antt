use Rattle.std.proofs.Common.{ℕ, List, ◌∷◌, map}
use Rattle.clocks.specs.declared.drift.Drift.{Drift}
use Rattle.world.specs.Jobs.{Job}
use Rattle.world.specs.declared.step.Step.TheVariants as step
use Rattle.world.specs.Pasts.{Past, steps_of, reading}
use Rattle.world.specs.Headline.{MayServe}
use Rattle.world_clocks.specs.Serving.{MayServeByDrift}
use Rattle.world_clocks.proofs.drift_law.Goals as goal

may : (c : goal.After-interval_law) (drift : ℕ → Drift) (job : Job) (past : Past) (task : ℕ) (key : List ℕ) → MayServeByDrift drift job past task key
    → MayServe job past task key
may c drift job past task key by =
    (by.at, c.timely_job_law.ensures drift job.policy.skew (map reading (step.Serve task key by.at ∷ steps_of past)) by.within, by.allowed)

pub returns-clause-owner : goal.returns-clause-owner
returns-clause-owner c = λ drift job later past task key leads by.
    c.headline_law.ensures.owner job later past task key leads (may c drift job past task key by)

pub returns-clause-one : goal.returns-clause-one
returns-clause-one c = λ drift job later past task other key leads single by by_other.
    c.headline_law.ensures.one job later past task other key leads single (may c drift job past task key by) (may c drift job past other key by_other)

pub returns-clause-held : goal.returns-clause-held
returns-clause-held c = λ drift job later run past task key leads within held.
    c.interval_law.ensures.owner job later run past task key leads (c.timely_job_law.ensures drift job.policy.skew (map reading (steps_of run)) within) held

pub returns-clause-alone : goal.returns-clause-alone
returns-clause-alone c = λ drift job later run past task other key leads single within held by.
    c.interval_law.ensures.alone job later run past task other key leads single
    (c.timely_job_law.ensures drift job.policy.skew (map reading (steps_of run)) within) held (may c drift job past other key by)
