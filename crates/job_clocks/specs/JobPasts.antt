-- What happens to the clocks of a job, newest first: the table's clock, and that of each life of a
-- task.
use Rattle.std.specs.Prelude.{ℕ, List, [], ◌∷◌, map, nat_eq, Option, Result, Ok, Err, if◌then◌else◌}
use Rattle.clocks.specs.declared.drift.Drift.{Drift}
use Rattle.clocks.specs.declared.refusal.ClockRefusal.{ClockRefusal}
use Rattle.clocks.specs.declared.task_clock.Sample.{Sample}
use Rattle.clocks.specs.TaskClocks.{read_answer}
use Rattle.clocks.specs.Pasts.{Event, Sampled, TaskRead, Other, Past, table_seen, KeepsDrift, SamplesAreAnswers}
use Rattle.clocks.specs.Timely.{clock_after}
use Rattle.job_calls.specs.declared.timing.Reading.{Reading}
use Rattle.job_calls.specs.declared.timing.Reading.TheVariants.{TableClock, TaskClock}

-- the table reads its clock, when each life's local clock shows this, or does not run; a life takes
-- a sample, or reads its clock, at a reading of its local clock. Lives have numbers, one for each
-- task clock that is made
pub data JobEvent : Type 0 where
  TableReads : ℕ → (ℕ → Option ℕ) → JobEvent
  LifeSamples : ℕ → ℕ → Sample → JobEvent
  LifeReads : ℕ → ℕ → JobEvent

-- what happened so far, newest first
abbrev pub JobPast : Type 0
JobPast = List JobEvent

-- an event as one life sees it
abbrev pub seen_by : ℕ → JobEvent → Event
seen_by life (TableReads reading locals) = table_seen reading (locals life)
seen_by life (LifeSamples who at sample) = if nat_eq who life then Sampled at sample else Other
seen_by life (LifeReads who at) = if nat_eq who life then TaskRead at else Other

-- the past as one life sees it
abbrev pub past_of : ℕ → JobPast → Past
past_of life past = map (seen_by life) past

-- THE PREMISE: for each life, the table's clock and its local clock keep the drift, and its samples
-- are earlier answers of the table
pub record KeepsJobDrift (drift : ℕ → Drift) (past : JobPast) : Type 0 where
  pub paced : (life : ℕ) → KeepsDrift (drift life) (past_of life past)
  pub honest : (life : ℕ) → SamplesAreAnswers (past_of life past)

-- the readings of the clocks, newest first: those of the table, and the values of the task clocks
abbrev pub with_answer : Result ℕ ClockRefusal → List Reading → List Reading
with_answer (Ok value) readings = TaskClock value ∷ readings
with_answer (Err why) readings = readings

abbrev pub readings_of : (ℕ → Drift) → (ℕ → ℕ) → JobPast → List Reading
readings_of drift oldest [] = []
readings_of drift oldest (TableReads reading locals ∷ past) = TableClock reading ∷ readings_of drift oldest past
readings_of drift oldest (LifeSamples who at sample ∷ past) = readings_of drift oldest past
readings_of drift oldest (LifeReads who at ∷ past) =
    with_answer (read_answer (clock_after (drift who) (oldest who) (past_of who past)) at) (readings_of drift oldest past)
