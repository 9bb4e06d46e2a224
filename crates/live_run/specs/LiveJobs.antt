-- Live jobs.
use Rattle.std.specs.Prelude.{ℕ, ◌+◌, ◌%◌, ◌^◌, [], ◌∷◌, Bool, ◌&&◌}
use Rattle.assignment.specs.Slices.{Slicing}
use Rattle.assignment.specs.Owners.{built}
use Rattle.assignment.specs.declared.slice.Slice.{Slice}
use Rattle.grants.specs.Policies.{Terms, terms}
use Rattle.machines.specs.Numbers.{is_within}
use Rattle.job_calls.specs.Jobs.{Job, job_of}
use Rattle.live_run.specs.declared.job.TheConstants.{MOST_TASKS, MOST_WORKERS, MOST_ROUNDS, MOST_ASKS, LONG}

-- how many tasks there are, how many workers a task has, how many generations are to be committed, and how many keys a worker asks for
pub record LiveSizes : Type 0 where
  pub tasks : ℕ
  pub workers : ℕ
  pub rounds : ℕ
  pub asks : ℕ

abbrev pub live_sizes : ℕ → ℕ → ℕ → ℕ → LiveSizes
live_sizes tasks workers rounds asks = record { tasks = tasks; workers = workers; rounds = rounds; asks = asks }

-- the sizes are within their limits
abbrev pub is_live_job : LiveSizes → Bool
is_live_job s = is_within s.tasks MOST_TASKS && is_within s.workers MOST_WORKERS && is_within s.rounds MOST_ROUNDS && is_within s.asks MOST_ASKS

-- what the table and its leases are held to: one owner a slice, clocks that agree, and leases that outlast the run
abbrev pub live_policy : Terms
live_policy = terms 1 1 0 LONG LONG LONG LONG

-- the job whose machines the threads play: one assigner, the tasks, and one clerk
abbrev pub played_job : LiveSizes → Job
played_job s = job_of live_policy 1 s.tasks 1

-- a slice that starts at a key, with one owner
abbrev pub half_of : ℕ → ℕ → Slice
half_of start owner = record { start = start; owners = owner ∷ [] }

-- the assignment of a generation: of the task numbers from 1 on, taken round, the one after the generation's and the next own a half of the keys each
abbrev pub halves_of : ℕ → ℕ → Slicing
halves_of generation tasks = built generation (half_of 0 (generation % tasks + 1) ∷ half_of (2 ^ 62) ((generation + 1) % tasks + 1) ∷ [])
