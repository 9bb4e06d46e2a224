-- Clocks of which no grant tells that they are not timely.
use Rattle.std.specs.Prelude.{◌≡◌, ℕ, ◌∷◌, []}
use Rattle.job_calls.specs.declared.timing.Reading.TheVariants.{TaskClock}
use Rattle.job_calls.specs.Jobs.{Job}
use Rattle.cluster.specs.Pasts.{Past, readings, grants}
use Rattle.cluster.specs.Runs.{IsRun}
use Rattle.cluster.specs.Timing.{IsTimely}

-- clocks that are not timely, in a run without a grant, so that no grant tells of it
pub record IsSilent (job : Job) : Type 0 where
  pub past : Past
  pub at : ℕ
  pub run : IsRun job past
  pub silent : grants past ≡ []
  pub late : IsTimely job.policy.skew (TaskClock at ∷ readings past) → ⊥
