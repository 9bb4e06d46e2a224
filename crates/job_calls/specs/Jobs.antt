-- Jobs.
use Rattle.std.specs.Prelude.{ℕ}
use Rattle.grants.specs.Policies.{Terms}

-- a job: what it is held to, and how many actors of each kind it has
pub record Job : Type 0 where
  pub policy : Terms
  pub assigners : ℕ
  pub tasks : ℕ
  pub clerks : ℕ

abbrev pub job_of : Terms → ℕ → ℕ → ℕ → Job
job_of policy assigners tasks clerks = record { policy = policy; assigners = assigners; tasks = tasks; clerks = clerks }
