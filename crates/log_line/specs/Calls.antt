-- What lines say of grants and of kept values, and whose clocks their calls read.
use Rattle.std.specs.Prelude.{ℕ, List}
use Rattle.grants.specs.declared.values.Grant.{Grant}
use Rattle.grants.specs.declared.kept.Kept.{Kept}
use Rattle.job_calls.specs.declared.timing.Reading.{Reading}
use Rattle.job_calls.specs.declared.timing.Reading.TheVariants.{TableClock, TaskClock, NoClock}
use Rattle.job_calls.specs.Readings.{reading}
use Rattle.log_line.specs.declared.line.BareGrant.{BareGrant}
use Rattle.log_line.specs.declared.line.LoggedCall.{LoggedCall}
use Rattle.log_line.specs.declared.line.LoggedCall.TheVariants.{Whole, HearBare, LearnBare, Restore, Sample}
use Rattle.log_line.specs.declared.restored.KeptNumbers.{KeptNumbers}

-- a grant with these ranges
abbrev pub with_ranges : BareGrant → List ℕ → Grant
with_ranges g ranges = record {
  number = g.number;
  task = g.task;
  life = g.life;
  lease = record { kind = g.kind; generation = g.generation; ranges = ranges; ends = g.ends };
  table_ends = g.table_ends;
}

-- the kept values that grants change
abbrev pub numbers_of : Kept → KeptNumbers
numbers_of kept = record { last = kept.last; granted = kept.granted; deadline = kept.deadline }

-- whose clock a call reads, and when; a restored table has read its last reading
abbrev pub reading_in : LoggedCall → Reading
reading_in (Whole c) = reading c
reading_in (HearBare task grant at) = TaskClock at
reading_in (LearnBare clerk generation) = NoClock
reading_in (Restore numbers) = TableClock numbers.last
reading_in (Sample taken) = NoClock
