use Rattle.log_lines.proofs.Entering.{not_made}
use Rattle.log_lines.proofs.blocks.enter.Goals as goal

pub returns-in_default : goal.returns-in_default
returns-in_default c =
    not_made c.args.now _ _ c.read_task_clock-reading.new.clock c.read_task_clock-reading.new.out c.read_task_clock-reading.result
    c.read_task_clock-reading.ensures c.in_default.not-Done
