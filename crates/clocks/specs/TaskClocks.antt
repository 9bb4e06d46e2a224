-- A task's clock: what it keeps, and what it answers.
use Rattle.std.specs.Prelude.{ℕ, ◌+◌, ◌-◌, ◌^◌, Bool, Option, Some, None, Result, Ok, Err, max, nat_lt, nat_le, if◌then◌else◌}
use Rattle.clocks.specs.declared.drift.Drift.{Drift}
use Rattle.clocks.specs.declared.refusal.ClockRefusal.{ClockRefusal}
use Rattle.clocks.specs.declared.refusal.ClockRefusal.TheVariants.{LocalClockBack, SentAhead, NoSample, TooOld, TooLarge}
use Rattle.clocks.specs.declared.task_clock.Sample.{Sample}
use Rattle.clocks.specs.declared.task_clock.TaskClock.{TaskClock}
use Rattle.clocks.specs.Drifts.{most_gain}

-- how far the table's clock may have come by a local reading, by what a sample says, without the
-- grain
abbrev pub reach : Drift → Sample → ℕ → ℕ
reach drift sample at = sample.reading + most_gain drift (at - sample.sent)

-- a sample's reach is no more than another's from the later `sent` on
abbrev pub is_better : Drift → Sample → Sample → Bool
is_better drift old new = if nat_le old.sent new.sent then nat_le (reach drift old new.sent) new.reading else nat_lt old.reading (reach drift new old.sent)

-- the sample that is kept after one more
abbrev pub better_of : Drift → Option Sample → Sample → Sample
better_of drift None new = new
better_of drift (Some old) new = if is_better drift old new then old else new

-- a clock before its first sample
abbrev pub new_clock : Drift → ℕ → TaskClock
new_clock drift oldest = record { drift = drift; oldest = oldest; best = None; newest = 0; last = 0; given = 0 }

-- the answer to a sample, and the clock after it
abbrev pub sample_answer : TaskClock → ℕ → ℕ → Result (Unit {0}) ClockRefusal
sample_answer clock sent now = if nat_lt now clock.last then Err LocalClockBack else if nat_lt now sent then Err SentAhead else Ok tt

abbrev pub after_sample : TaskClock → ℕ → Sample → Result (Unit {0}) ClockRefusal → TaskClock
after_sample clock now sample (Ok done) =
    record clock { best = Some (better_of clock.drift clock.best sample); newest = max clock.newest sample.sent; last = now }
after_sample clock now sample (Err why) = clock

-- the least value that no earlier reading of the table is above, by what a sample says
abbrev pub bound : Drift → Sample → ℕ → ℕ
bound drift sample at = reach drift sample at + drift.grain

-- the answer to a reading, and the clock after it
abbrev pub answer_by : TaskClock → ℕ → Option Sample → Result ℕ ClockRefusal
answer_by clock now None = Err NoSample
answer_by clock now (Some sample) =
    if nat_lt clock.oldest (now - clock.newest) then Err TooOld
    else if nat_lt (bound clock.drift sample now) (2 ^ 64) then Ok (max clock.given (bound clock.drift sample now)) else Err TooLarge

abbrev pub read_answer : TaskClock → ℕ → Result ℕ ClockRefusal
read_answer clock now = if nat_lt now clock.last then Err LocalClockBack else answer_by clock now clock.best

abbrev pub after_read : TaskClock → ℕ → Result ℕ ClockRefusal → TaskClock
after_read clock now (Ok value) = record clock { last = now; given = value }
after_read clock now (Err why) = clock
