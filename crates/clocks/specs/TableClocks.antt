-- The table's clock.
use Rattle.std.specs.Prelude.{ℕ, ◌+◌, ◌-◌, ◌^◌, Result, Ok, Err, nat_lt, if◌then◌else◌}
use Rattle.clocks.specs.declared.refusal.ClockRefusal.{ClockRefusal}
use Rattle.clocks.specs.declared.refusal.ClockRefusal.TheVariants.{LocalClockBack, TooLarge, NotYet}
use Rattle.clocks.specs.declared.table_clock.TableClock.{TableClock}

-- the clock of a new process: it starts below the kept reading by what may have been kept ahead
abbrev pub opened : ℕ → ℕ → ℕ → TableClock
opened kept ahead now = record { start = kept - ahead; opened = now; kept = kept; last = now }

-- what the clock shows at a local reading
abbrev pub shown : TableClock → ℕ → ℕ
shown clock now = clock.start + (now - clock.opened)

-- what the clock answers when it is read, and what it is then
abbrev pub table_answer : TableClock → ℕ → Result ℕ ClockRefusal
table_answer clock now =
    if nat_lt now clock.last then Err LocalClockBack
    else if nat_lt (shown clock now) (2 ^ 64) then (if nat_lt (shown clock now) clock.kept then Err (NotYet clock.kept) else Ok (shown clock now))
    else Err TooLarge

abbrev pub after_table_read : TableClock → ℕ → Result ℕ ClockRefusal → TableClock
after_table_read clock now (Ok value) = record clock { last = now }
after_table_read clock now (Err why) = clock
