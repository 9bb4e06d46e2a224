use Rattle.std.proofs.Common.{◌≡◌, ◌∙◌, ℕ, ◌+◌, true, false, take, sym, subst, arith}
use Rattle.std.specs.Prelude.{◌==◌}
use Rattle.std.proofs.lemmas.Bool.Decides.{nat_tests}
use Rattle.weighted_move.specs.Loads.{load_in}
use Rattle.weighted_move.specs.Owning.{without_task}
use Rattle.weighted_move.specs.Moves.{greatest}
use Rattle.weighted_move.proofs.Gains.{greatest_none, others_more, others_same}
use Rattle.weighted_move.proofs.task_loads.TaskLoads.greatest_without.Goals as goal
use Rattle.weighted_move.proofs.task_loads.TaskLoads.greatest_without.Goals.{then-ne, else-ne}

pub loop-task-init : goal.loop-task-init
loop-task-init c = sym (greatest_none (load_in c.args.self.now))

pub loop-task-preserved : goal.loop-task-preserved
loop-task-preserved c =
    let load = load_in c.args.self.now in
    let tasks = c.args.tasks.now in
    let i = c.loop-task.task-index in
    let task = c.task-item.result in
    let known = c.loop-task.invariant in
    let P : ℕ → Type 0 = λ most. most ≡ greatest load (without_task c.args.left_out (take (i + 1) tasks)) in
    elim c.if-ne.branch [
      | then-ne w ↦
          let other : (task == c.args.left_out) ≡ false = grind (arith, nat_tests, c.ne.ensures, w.if-ne.true) in
          let more = others_more load c.args.left_out tasks i task c.loop-task-test.true c.task-item.is other in
          subst P (sym w.most-is) (omega (arith, more, known, w.max-most.ensures, w.of_task.ensures))
      | else-ne w ↦
          let same : (task == c.args.left_out) ≡ true = grind (arith, nat_tests, c.ne.ensures, w.if-ne.false) in
          subst P (sym w.most-is) (known ∙ sym (others_same load c.args.left_out tasks i task c.loop-task-test.true c.task-item.is same))
    ]
