-- Who may serve a key with clocks whose rates differ by at most a drift.
use Rattle.std.specs.Prelude.{ℕ, IsTrue, List, ◌∷◌, map}
use Rattle.clocks.specs.declared.drift.Drift.{Drift}
use Rattle.slice_ranges.specs.Hash.{slice_key}
use Rattle.slicelet.specs.Rules.{is_allowed}
use Rattle.cluster.specs.Replies.{rule_in}
use Rattle.world.specs.Jobs.{Job}
use Rattle.world.specs.declared.step.Step.TheVariants as step
use Rattle.world.specs.Pasts.{Past, steps_of, reading}
use Rattle.world.specs.Calls.{calls_in}
use Rattle.job_clocks.specs.Within.{AreWithinDrift}

-- a task may serve a key now: at some value of its task clock the written rule allows the key, on what the task was told
pub record MayServeByDrift (drift : ℕ → Drift) (job : Job) (past : Past) (task : ℕ) (key : List ℕ) : Type 0 where
  pub at : ℕ
  pub within : AreWithinDrift drift (map reading (step.Serve task key at ∷ steps_of past))
  pub allowed : IsTrue (is_allowed (rule_in (calls_in job past) task (slice_key key) at))
