use Rattle.std.proofs.Common.{◌<◌, List, length, subst}
use Rattle.job_calls.specs.declared.snapshot.TaskSnapshot.{TaskSnapshot}
use Rattle.run_record.proofs.Making.{on_ok}
use Rattle.run_record.proofs.Tasks.{not_of_task, not_answered, answered_now}
use Rattle.run_record.proofs.actors.record_task.Goals as goal

pub returns-in_default : goal.returns-in_default
returns-in_default c = λ job past answered are. not_of_task job past c.args.call.now c.args.reply.now answered c.args.tasks.now.items are c.in_default.not-Task

pub returns-in_default-reply : goal.returns-in_default-reply
returns-in_default-reply c = λ job past answered are.
    not_answered job past c.args.call.now c.args.reply.now answered c.args.tasks.now.items are c.in-Task.task c.in-Task.call c.in-Task.is c.in_default-reply.not-Task

pub returns : goal.returns
returns c = λ job past answered are.
    let inside = subst (λ (xs : List TaskSnapshot). c.in-Some.place < length xs) c.as_slice.ensures.value c.in-Some.ensures.1 in
    on_ok c.add_call.result (answered_now job past c.args.call.now c.args.reply.now answered c.args.tasks.now.items are c.in-Task.task c.in-Task.call c.in-Task.is c.in-Task-reply.field-0
    c.in-Task-reply.is c.in-Some.place c.index_mut.result.now c.add_call.new.task c.in-Some.ensures.0 inside c.index_mut.ensures.value) c.add_call.ensures
