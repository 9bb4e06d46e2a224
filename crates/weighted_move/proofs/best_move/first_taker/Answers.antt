use Rattle.std.proofs.Common.{◌≡◌, ℕ, ◌+◌, inl, inr, false, List, Option, Some, take, sym, ◌∙◌, subst, arith}
use Rattle.std.specs.Prelude.{max}
use Rattle.std.proofs.lemmas.Bool.Decides.{nat_tests}
use Rattle.assignment.specs.Slices.{is_among}
use Rattle.weighted_move.specs.Loads.{load_in}
use Rattle.weighted_move.specs.Kinds.{IsTakerOf}
use Rattle.weighted_move.proofs.Prefixes.{at_end}
use Rattle.weighted_move.proofs.Seeking.{IsTakerSoFar, passed, taken}
use Rattle.weighted_move.proofs.best_move.first_taker.Goals as goal
use Rattle.weighted_move.proofs.best_move.first_taker.Goals.{then-load-least+then-not-contains, else-load-least, else-load-least-via-then-load-least+else-not-contains, else-load-least-via-else-load-least}

pub loop-task-preserved : goal.loop-task-preserved
loop-task-preserved c =
    let load = load_in c.args.loads.now in
    let tasks = c.args.tasks.now in
    let owners = c.args.owners.now in
    let room = c.args.room in
    let i = c.loop-task.task-index in
    let task = c.task-item.result in
    let P : Option ℕ → Type 0 = λ best. IsTakerSoFar load (take (i + 1) tasks) owners room best c.if-load-least.least in
    elim c.if-load-least.branch [
      | then-load-least+then-not-contains w ↦
          let stranger : is_among owners task ≡ false = grind (arith, nat_tests, w.contains.ensures, w.if-not-contains.true) in
          let level : c.max-load.result ≡ max (load task) room = omega (arith, c.max-load.ensures, c.of_task.ensures) in
          let Q : ℕ → Type 0 = λ least. IsTakerSoFar load (take (i + 1) tasks) owners room (Some task) least in
          subst P (sym w.best-is) (subst Q (sym level ∙ sym w.least-is)
          (taken load tasks owners room c.requires.set c.requires.small i task c.loop-task-test.true c.task-item.is c.loop-task.best c.loop-task.least stranger (omega (arith, level, w.if-load-least.true)) c.loop-task.invariant))
      | else-load-least w ↦
          let Q : ℕ → Type 0 = λ least. IsTakerSoFar load (take (i + 1) tasks) owners room c.loop-task.best least in
          subst P (sym w.best-is) (subst Q (sym w.least-is) (passed load tasks owners room c.requires.set c.requires.small i task c.loop-task-test.true c.task-item.is c.loop-task.best c.loop-task.least
          (elim w.else-load-least.branch [
            | else-load-least-via-then-load-least+else-not-contains v ↦ inl (grind (arith, nat_tests, v.contains.ensures, v.if-not-contains.false))
            | else-load-least-via-else-load-least v ↦ inr (omega (arith, c.max-load.ensures, c.of_task.ensures, v.if-load-least.false))
          ]) c.loop-task.invariant))
    ]

pub returns : goal.returns
returns c =
    let Q : List ℕ → Type 0 = λ tasks. IsTakerOf (load_in c.args.loads.now) tasks c.args.owners.now c.args.room c.loop-task.best in
    at_end Q c.args.tasks.now c.loop-task.task-index c.loop-task-test.false c.loop-task.invariant.chosen
