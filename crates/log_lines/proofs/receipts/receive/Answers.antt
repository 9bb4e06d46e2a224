use Rattle.c_calls.specs.Outputs.{output}
use Rattle.log_lines.specs.Receipts.{received}
use Rattle.log_lines.proofs.Receiving.{not_received}
use Rattle.log_lines.proofs.receipts.receive.Goals as goal

pub returns-in_default : goal.returns-in_default
returns-in_default c =
    not_received c.args.job.now c.args.policy.now c.args.grant.now c.args.now
    (received c.args.slicelet.now c.args.clock.now c.args.receipt.now (output c.args.out.now c.args.needed.now))
    c.read_task_clock-reading.new.clock c.read_task_clock-reading.new.out c.read_task_clock-reading.result c.read_task_clock-reading.ensures c.in_default.not-Done
