use Rattle.serde_json.specs.View.{view}
use Rattle.wire.specs.declared.numerals.Numerals.TheVariants.{Either}
use Rattle.wire.specs.TableCalls.{call_kinds}
use Rattle.log_line.specs.MessageCalls.{table_line, table_members}
use Rattle.log_line.proofs.Naming.{line_given}
use Rattle.log_line.proofs.message_calls.table_line_named.Goals as goal

pub returns : goal.returns
returns c = line_given table_line (call_kinds table_members Either) c.args.name.now (view c.args.line.now) c.in_ok-call.call c.of_table.result c.in_ok-call.ensures (λ read given. c.of_table.ensures read (view c.args.line.now) given)
