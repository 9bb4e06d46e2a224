use Rattle.serde_json.specs.View.{view}
use Rattle.wire.specs.declared.numerals.Numerals.TheVariants.{Either}
use Rattle.wire.specs.TaskCalls.{task_call_kinds}
use Rattle.log_line.specs.MessageCalls.{task_line, task_members}
use Rattle.log_line.proofs.Naming.{line_given}
use Rattle.log_line.proofs.message_calls.task_line_named.Goals as goal

pub returns : goal.returns
returns c = line_given task_line (task_call_kinds task_members Either) c.args.name.now (view c.args.line.now) c.in_ok-call.call c.of_task.result c.in_ok-call.ensures c.of_task.ensures
