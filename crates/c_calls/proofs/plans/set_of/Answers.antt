use Rattle.std.proofs.Common.{arith, ap, length}
use Rattle.std.proofs.lemmas.List.{length-take}
use Rattle.c_calls.proofs.TaskNumbers.{few_tasks}
use Rattle.c_calls.proofs.plans.set_of.Goals as goal

pub push-requires : goal.push-requires
push-requires c =
    let few = few_tasks c.args.numbers.now c.requires in
    let pushed = simp length-take at (ap length c.loop-number.invariant) in
    (omega arith, omega arith)
