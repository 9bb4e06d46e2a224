-- Readings of clocks whose rates differ by at most a drift.
use Rattle.std.specs.Prelude.{◌≡◌, ℕ, ◌⊎◌, List, [], ◌∷◌}
use Rattle.clocks.specs.declared.drift.Drift.{Drift}
use Rattle.job_calls.specs.declared.timing.Reading.{Reading}
use Rattle.job_calls.specs.declared.timing.Reading.TheVariants.{TableClock, TaskClock, NoClock}
use Rattle.job_clocks.specs.JobPasts.{JobPast, KeepsJobDrift, readings_of}

-- readings without those of no clock
abbrev pub clocked : List Reading → List Reading
clocked [] = []
clocked (NoClock ∷ readings) = clocked readings
clocked (TableClock at ∷ readings) = TableClock at ∷ clocked readings
clocked (TaskClock at ∷ readings) = TaskClock at ∷ clocked readings

-- a list has some of these readings, in the same order
abbrev pub StartsWith : Reading → (List Reading → Type 0) → List Reading → Type 0
StartsWith reading Rest [] = ⊥
StartsWith reading Rest (first ∷ rest) = (first ≡ reading) × Rest rest

abbrev pub HaveInOrder : List Reading → List Reading → Type 0
HaveInOrder [] some = some ≡ []
HaveInOrder (reading ∷ all) some = HaveInOrder all some ⊎ StartsWith reading (HaveInOrder all) some

-- the drift in place of timely clocks: each reading of these calls is one of the table's clock or a
-- value of a task clock, in the order of real time, and the rates of the clocks differ by at most
-- the drift. The clocks may be read more often than calls are made
pub record AreWithinDrift (drift : ℕ → Drift) (readings : List Reading) : Type 0 where
  pub oldest : ℕ → ℕ
  pub clocks : JobPast
  pub keeps : KeepsJobDrift drift clocks
  pub read : HaveInOrder (readings_of drift oldest clocks) (clocked readings)
