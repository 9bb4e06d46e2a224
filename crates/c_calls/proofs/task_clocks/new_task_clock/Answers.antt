use Rattle.c_calls.proofs.TaskClocks.{made}
use Rattle.c_calls.proofs.task_clocks.new_task_clock.Goals as goal

pub returns-in-Some : goal.returns-in-Some
returns-in-Some c =
    made c.args.extra c.args.per c.args.grain c.args.oldest c.args.clock.now c.numbers.result c.in-Some.drift c.new-in-Some.result c.in-Some.ensures.some
    c.new-in-Some.ensures.clock c.numbers.ensures
