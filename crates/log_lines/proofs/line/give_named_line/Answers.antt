use Rattle.c_calls.specs.Outputs.{output}
use Rattle.log_lines.proofs.MessageReads.{none_read}
use Rattle.log_lines.proofs.line.give_named_line.Goals as goal

pub returns-in-Err : goal.returns-in-Err
returns-in-Err c =
    none_read c.args.job.now c.args.name c.args.numbers.now c.args.message.now (output c.args.out.now c.args.needed.now) c.unread_answer.result c.in-Err.why c.kind_in.result c.kind_in.ensures
    (rw c.in-Err.is at c.read_message.ensures) c.unread_answer.ensures
