use Rattle.c_calls.proofs.TaskClocks.{sampled, not_sampled}
use Rattle.c_calls.proofs.task_clocks.sample_task_clock.Goals as goal

pub returns-in-Ok : goal.returns-in-Ok
returns-in-Ok c =
    sampled c.in-Some.known c.sample.new.self c.args.sent c.args.reading c.args.now c.args.clock.now c.numbers.result c.in-Some.ensures.some c.in-Ok.ensures.answer
    c.in-Ok.ensures.clock c.numbers.ensures

pub returns-in-Err : goal.returns-in-Err
returns-in-Err c =
    not_sampled c.in-Some.known c.args.sent c.args.reading c.args.now c.args.clock.now c.in-Err.why c.in-Some.ensures.some c.in-Err.ensures.answer
