-- What happens to the table's clock and to one task's, newest first, and the premise that their
-- rates differ by at most the drift.
use Rattle.std.specs.Prelude.{◌≡◌, ℕ, ◌+◌, ◌-◌, ◌≤◌, max, List, [], ◌∷◌, ◌⊎◌, ⊤, Option, Some, None}
use Rattle.std.specs.List.{AllByRecursion}
use Rattle.clocks.specs.declared.drift.Drift.{Drift}
use Rattle.clocks.specs.declared.task_clock.Sample.{Sample}
use Rattle.clocks.specs.Drifts.{most_gain}

-- a reading of the table's clock, and what the task's local clock shows at that moment
pub record Moment : Type 0 where
  pub table : ℕ
  pub local : ℕ

-- the table reads its clock, before the task's local clock runs or while it runs; the task takes a
-- sample, or reads its clock, at a reading of its local clock; anything else
pub data Event : Type 0 where
  EarlyRead : ℕ → Event
  TableRead : Moment → Event
  Sampled : ℕ → Sample → Event
  TaskRead : ℕ → Event
  Other : Event

-- what happened so far, newest first
abbrev pub Past : Type 0
Past = List Event

-- a reading of the table, when the task's local clock shows this, or does not run
abbrev pub table_seen : ℕ → Option ℕ → Event
table_seen reading None = EarlyRead reading
table_seen reading (Some local) = TableRead (record { table = reading; local = local })

-- the greatest reading of the table so far
abbrev pub newest : Past → ℕ
newest [] = 0
newest (EarlyRead reading ∷ past) = max reading (newest past)
newest (TableRead moment ∷ past) = max moment.table (newest past)
newest (_ ∷ past) = newest past

-- what the task's local clock shows at an event
abbrev pub local_of : Event → Option ℕ
local_of (TableRead moment) = Some moment.local
local_of (Sampled at sample) = Some at
local_of (TaskRead at) = Some at
local_of _ = None

-- the local clock does not fall
abbrev pub IsNotBack : Option ℕ → Option ℕ → Type 0
IsNotBack (Some early) (Some late) = early ≤ late
IsNotBack _ _ = ⊤

-- from one reading of the table's clock to a later one it does not fall, and gains at most what the
-- drift allows for the local gain
pub record GainsWithin (drift : Drift) (late early : Moment) : Type 0 where
  pub rises : early.table ≤ late.table
  pub gains : late.table ≤ early.table + most_gain drift (late.local - early.local) + drift.grain

-- the same for any two readings of the table; a local clock that runs goes on running
abbrev pub AreReadingsWithin : Drift → Event → Event → Type 0
AreReadingsWithin drift (TableRead late) (TableRead early) = GainsWithin drift late early
AreReadingsWithin drift (TableRead late) (EarlyRead early) = early ≤ late.table
AreReadingsWithin drift (EarlyRead late) (EarlyRead early) = early ≤ late
AreReadingsWithin drift (EarlyRead late) (TableRead early) = ⊥
AreReadingsWithin drift _ _ = ⊤

-- an event is within the drift after an earlier one
pub record IsWithinDrift (drift : Drift) (late early : Event) : Type 0 where
  pub local : IsNotBack (local_of early) (local_of late)
  pub readings : AreReadingsWithin drift late early

-- PREMISE 1, the drift: each event is within the drift after each earlier one
abbrev pub KeepsDrift : Drift → Past → Type 0
KeepsDrift drift [] = ⊤
KeepsDrift drift (late ∷ past) = AllByRecursion (IsWithinDrift drift late) past × KeepsDrift drift past

-- an event answers a sample: the table reads this reading, when the local clock is at or past the
-- sample's `sent`
abbrev pub IsAnswer : Sample → Event → Type 0
IsAnswer sample (TableRead moment) = (moment.table ≡ sample.reading) × (sample.sent ≤ moment.local)
IsAnswer sample _ = ⊥

-- the table gave this answer
abbrev pub WasAnswered : Sample → Past → Type 0
WasAnswered sample [] = ⊥
WasAnswered sample (event ∷ past) = IsAnswer sample event ⊎ WasAnswered sample past

-- PREMISE 2: each sample that the task takes is an earlier answer of the table
abbrev pub SamplesAreAnswers : Past → Type 0
SamplesAreAnswers [] = ⊤
SamplesAreAnswers (Sampled at sample ∷ past) = WasAnswered sample past × SamplesAreAnswers past
SamplesAreAnswers (_ ∷ past) = SamplesAreAnswers past

-- a reading of the table is at most this value
abbrev pub IsAtMost : ℕ → Event → Type 0
IsAtMost value (EarlyRead reading) = reading ≤ value
IsAtMost value (TableRead moment) = moment.table ≤ value
IsAtMost value _ = ⊤
