use Rattle.std.proofs.Common.{arith}
use Rattle.log_lines.proofs.ReadBack.{start_read, hear_read, release_read, open_read}
use Rattle.log_lines.proofs.line_laws.task_law.Goals as goal

pub returns-in-Start : goal.returns-in-Start
returns-in-Start c = rw c.in-Start.is (start_read c.args.ticket c.args.task c.in-Start.life c.in-Start.at c.args.words.now (omega arith))

pub returns-in-Hear : goal.returns-in-Hear
returns-in-Hear c =
    rw c.in-Hear.is (hear_read c.args.ticket c.args.task c.in-Hear.grant c.in-Hear.at c.args.words.now (omega arith) (omega (arith, c.number-task.ensures.value, c.number-task.ensures.low)) (omega (arith, c.number-task.ensures.value, c.number-task.ensures.high))
    c.boundaries-boundaries.ensures.ranges)

pub returns-in-Release : goal.returns-in-Release
returns-in-Release c = rw c.in-Release.is (release_read c.args.ticket c.args.task c.in-Release.kind c.in-Release.at c.args.words.now)

pub returns-in-Resume : goal.returns-in-Resume
returns-in-Resume c = rw c.in-Resume.is (open_read c.args.ticket c.args.task c.in-Resume.life c.args.words.now (omega arith))
