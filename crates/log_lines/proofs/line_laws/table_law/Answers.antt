use Rattle.std.proofs.Common.{arith}
use Rattle.log_lines.proofs.ReadBack.{take_read, renew_read, propose_read, commit_read, grant_call_read, free_read, lose_read}
use Rattle.log_lines.proofs.line_laws.table_law.Goals as goal

pub returns-in-Propose : goal.returns-in-Propose
returns-in-Propose c =
    rw c.in-Propose.is (propose_read c.args.ticket c.in-Propose.number c.in-Propose.assignment c.in-Propose.at c.args.words.now c.slices-slices.ensures.accepted c.slices-slices.ensures.rising)

pub returns-in-Grant : goal.returns-in-Grant
returns-in-Grant c =
    rw c.in-Grant.is (grant_call_read c.args.ticket c.in-Grant.task c.in-Grant.life c.in-Grant.at c.args.words.now (omega arith) (omega (arith, c.number-task.ensures.value, c.number-task.ensures.low)) (omega (arith, c.number-task.ensures.value, c.number-task.ensures.high)))

pub returns-in-Free : goal.returns-in-Free
returns-in-Free c =
    rw c.in-Free.is (free_read c.args.ticket c.in-Free.note c.in-Free.at c.args.words.now (omega arith) (omega (arith, c.number-task-in-Free.ensures.value, c.number-task-in-Free.ensures.low)) (omega (arith, c.number-task-in-Free.ensures.value, c.number-task-in-Free.ensures.high)))

pub returns-in-JobTake : goal.returns-in-JobTake
returns-in-JobTake c = rw c.in-JobTake.is (take_read c.args.ticket c.in-JobTake.assigner c.in-JobTake.at c.args.words.now)

pub returns-in-JobRenew : goal.returns-in-JobRenew
returns-in-JobRenew c = rw c.in-JobRenew.is (renew_read c.args.ticket c.in-JobRenew.number c.in-JobRenew.at c.args.words.now)

pub returns-in-Commit : goal.returns-in-Commit
returns-in-Commit c = rw c.in-Commit.is (commit_read c.args.ticket c.in-Commit.number c.in-Commit.at c.args.words.now)

pub returns-in-Restart : goal.returns-in-Restart
returns-in-Restart c = rw c.in-Restart.is (lose_read c.args.ticket c.args.words.now)
