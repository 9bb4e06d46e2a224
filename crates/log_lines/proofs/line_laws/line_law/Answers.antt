use Rattle.std.proofs.Common.{arith}
use Rattle.log_lines.proofs.ReadBack.{bare_learn_read, bare_read, restore_read, sample_read}
use Rattle.log_lines.proofs.line_laws.line_law.Goals as goal

pub returns-in-HearBare : goal.returns-in-HearBare
returns-in-HearBare c =
    rw c.in-HearBare.is (bare_read c.args.ticket c.in-HearBare.task c.in-HearBare.grant c.in-HearBare.at c.args.words.now (omega arith) (omega (arith, c.number-task.ensures.value, c.number-task.ensures.low))
    (omega (arith, c.number-task.ensures.value, c.number-task.ensures.high)))

pub returns-in-LearnBare : goal.returns-in-LearnBare
returns-in-LearnBare c = rw c.in-LearnBare.is (bare_learn_read c.args.ticket c.in-LearnBare.clerk c.in-LearnBare.generation c.args.words.now)

pub returns-in-Restore : goal.returns-in-Restore
returns-in-Restore c = rw c.in-Restore.is (restore_read c.args.ticket c.in-Restore.field-0 c.args.words.now)

pub returns-in-Sample : goal.returns-in-Sample
returns-in-Sample c = rw c.in-Sample.is (sample_read c.args.ticket c.in-Sample.field-0 c.args.words.now)
