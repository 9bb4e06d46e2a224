use Rattle.std.proofs.Common.{◌<◌, List, length, subst, sym}
use Rattle.reasons.specs.declared.places.TaskPlaces.{TaskPlaces}
use Rattle.reasons.proofs.Placing.{on_ok, on_err, accepted_now, set_again}
use Rattle.reasons.proofs.places.CallPlaces.add.Goals as goal

pub returns-clause-ok : goal.returns-clause-ok
returns-clause-ok c = λ many placed are.
    let tasks = c.args.self.now.tasks.items in
    let inside = subst (λ (xs : List TaskPlaces). c.in-Some.index < length xs) c.as_slice.ensures.value c.in-Some.ensures.1 in
    on_ok c.add.result (accepted_now c.args.place placed many tasks are c.in-Task.task c.in-Task.call c.args.call.now c.in-Task.is c.args.reply.now (sym c.if-not-is_accepted.ensures) c.in-Some.index
    c.index_mut.result.now c.add.new.self c.in-Some.ensures.0 inside c.index_mut.ensures.value) c.add.ensures.ok

pub returns-clause-err : goal.returns-clause-err
returns-clause-err c = λ many placed are.
    let tasks = c.args.self.now.tasks.items in
    let inside = subst (λ (xs : List TaskPlaces). c.in-Some.index < length xs) c.as_slice.ensures.value c.in-Some.ensures.1 in
    on_err c.add.result (set_again c.args.place placed many tasks are c.in-Some.index c.index_mut.result.now c.add.new.self inside c.index_mut.ensures.value) c.add.ensures.err
