-- What a call of the table's clock returns and writes.
use Rattle.std.specs.Prelude.{ℕ, Result, Ok, Err}
use Rattle.clocks.specs.declared.refusal.ClockRefusal.{ClockRefusal}
use Rattle.c_calls.specs.declared.answer.Answer.{Answer}
use Rattle.c_calls.specs.declared.answer.Answer.TheVariants.{Done, Clock}

abbrev pub read_code : Result ℕ ClockRefusal → Answer
read_code (Ok reading) = Done
read_code (Err why) = Clock why

-- the reading, and nothing if the clock refused the call
abbrev pub read_out : Result ℕ ClockRefusal → ℕ → ℕ
read_out (Ok reading) was = reading
read_out (Err why) was = was
