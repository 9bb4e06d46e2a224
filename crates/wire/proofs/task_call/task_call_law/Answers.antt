use Rattle.std.proofs.Common.{arith}
use Rattle.wire.proofs.TaskCalls.{start_read, hear_read, release_read, resume_read}
use Rattle.wire.proofs.task_call.task_call_law.Goals as goal

pub returns-in-Start : goal.returns-in-Start
returns-in-Start c = rw c.in-Start.is (start_read c.in-Start.life c.in-Start.at (omega arith) (omega arith))

pub returns-in-Hear : goal.returns-in-Hear
returns-in-Hear c = rw c.in-Hear.is (hear_read c.in-Hear.grant c.in-Hear.at (omega arith) c.grant_law.ensures)

pub returns-in-Release : goal.returns-in-Release
returns-in-Release c = rw c.in-Release.is (release_read c.in-Release.kind c.in-Release.at (omega arith))

pub returns-in-Resume : goal.returns-in-Resume
returns-in-Resume c = rw c.in-Resume.is (resume_read c.in-Resume.life (omega arith))
