use Rattle.clocks.proofs.KeptNumbers.{read_whole, not_read}
use Rattle.clocks.proofs.numbers.TaskClockNumbers.read_in_full.Goals as goal

pub returns-in-Ok : goal.returns-in-Ok
returns-in-Ok c =
    read_whole c.args.self.now c.numbers.result c.in_ok-clock.clock c.read.new.self c.args.now c.in-Ok.value c.in_ok-clock.ensures.some c.in-Ok.ensures.answer
    c.in-Ok.ensures.clock c.numbers.ensures

pub returns-in-Err : goal.returns-in-Err
returns-in-Err c = not_read c.args.self.now c.in_ok-clock.clock c.args.now c.in-Err.why c.in_ok-clock.ensures.some c.in-Err.ensures.answer
