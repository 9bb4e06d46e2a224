use Rattle.std.proofs.Common.{string_bytes}
use Rattle.command.specs.Runs.{numbered_lines}
use Rattle.command.proofs.Numbering.{is_done}
use Rattle.command.proofs.script_run.lines_of.Goals as goal

pub returns-clause-lines : goal.returns-clause-lines
returns-clause-lines c =
    is_done (string_bytes c.loop-i.text) c.loop-i.i c.args.steps.now c.args.replies.now (numbered_lines 1 c.args.steps.now c.args.replies.now) c.loop-i-test.false
    c.loop-i.invariant.lines
