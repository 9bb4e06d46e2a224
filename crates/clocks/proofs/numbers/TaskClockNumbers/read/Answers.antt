use Rattle.clocks.proofs.KeptNumbers.{read_quickly}
use Rattle.clocks.proofs.numbers.TaskClockNumbers.read.Goals as goal

pub returns-in-Some : goal.returns-in-Some
returns-in-Some c = read_quickly c.args.self.now c.in_ok-clock.clock c.args.now c.in-Some.value c.in_ok-clock.ensures.some c.in-Some.ensures
