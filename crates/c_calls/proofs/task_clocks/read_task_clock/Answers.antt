use Rattle.std.proofs.Common.{Some, subst}
use Rattle.clocks.specs.Numbers.{AreRead}
use Rattle.c_calls.proofs.TaskClocks.{read, not_read}
use Rattle.c_calls.proofs.task_clocks.read_task_clock.Goals as goal

pub returns-in-Some-Ok : goal.returns-in-Some-Ok
returns-in-Some-Ok c =
    let old = c.args.clock.now in
    let new = c.read.new.self in
    read c.args.now c.in-Some-Ok.value c.args.out.now old new (subst (λ r. AreRead old new c.args.now (Some r)) c.in-Some-Ok.field-0-is c.in-Some-Ok.ensures)

pub returns-in-Some-Err : goal.returns-in-Some-Err
returns-in-Some-Err c =
    let old = c.args.clock.now in
    let new = c.read.new.self in
    not_read c.args.now c.args.out.now old new c.in-Some-Err.why (subst (λ r. AreRead old new c.args.now (Some r)) c.in-Some-Err.field-0-is c.in-Some-Err.ensures)
