use Rattle.std.proofs.Common.{subst}
use Rattle.log_line.specs.Lines.{Says}
use Rattle.log_line.proofs.call_lines.CallLines.add.Goals as goal

pub returns-in-Call : goal.returns-in-Call
returns-in-Call c = λ lines known none says. c.add_call.ensures lines known none (subst (Says c.args.line.now.bytes.now) c.in-Call.is says)

pub returns-in-Write : goal.returns-in-Write
returns-in-Write c = λ lines known none says. c.add_write.ensures lines known none (subst (Says c.args.line.now.bytes.now) c.in-Write.is says)
