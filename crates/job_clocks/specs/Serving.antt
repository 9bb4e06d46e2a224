-- Who may serve a key with clocks whose rates differ by at most a drift. Keys are slice keys.
use Rattle.std.specs.Prelude.{ℕ, IsTrue, ◌∷◌}
use Rattle.clocks.specs.declared.drift.Drift.{Drift}
use Rattle.slicelet.specs.Rules.{is_allowed}
use Rattle.job_calls.specs.declared.timing.Reading.TheVariants.{TaskClock}
use Rattle.cluster.specs.Pasts.{Past, readings}
use Rattle.cluster.specs.Replies.{rule_in}
use Rattle.job_clocks.specs.Within.{AreWithinDrift}

-- a task may serve a key now: at some value of its task clock the written rule allows the key, on
-- the calls that it accepted
pub record MayServeByDrift (drift : ℕ → Drift) (past : Past) (task key : ℕ) : Type 0 where
  pub at : ℕ
  pub within : AreWithinDrift drift (TaskClock at ∷ readings past)
  pub allowed : IsTrue (is_allowed (rule_in past task key at))
