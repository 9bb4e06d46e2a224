use Rattle.serde_json.specs.View.{view}
use Rattle.wire.specs.declared.numerals.Numerals.TheVariants.{Either}
use Rattle.wire.specs.ClerkCalls.{clerk_call_kinds}
use Rattle.log_line.specs.MessageCalls.{clerk_line, clerk_members}
use Rattle.log_line.proofs.Naming.{line_given}
use Rattle.log_line.proofs.message_calls.clerk_line_named.Goals as goal

pub returns : goal.returns
returns c = line_given clerk_line (clerk_call_kinds clerk_members Either) c.args.name.now (view c.args.line.now) c.in_ok-call.call c.of_clerk.result c.in_ok-call.ensures c.of_clerk.ensures
