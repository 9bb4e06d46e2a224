use Rattle.std.proofs.Common.{◌<◌, List, length, subst}
use Rattle.std.specs.Prelude.{Option}
use Rattle.assignment.specs.Slices.{Slicing}
use Rattle.run_record.proofs.Clerks.{not_answered, answered_now}
use Rattle.run_record.proofs.Making.{on_ok}
use Rattle.run_record.proofs.actors.record_clerk.Goals as goal

pub returns-in_default-reply : goal.returns-in_default-reply
returns-in_default-reply c = λ job past answered are.
    not_answered job past c.args.call.now c.args.reply.now answered c.args.clerks.now.items are c.in-Clerk.clerk c.in-Clerk.call c.in-Clerk.is c.in_default-reply.not-Clerk

pub returns : goal.returns
returns c = λ job past answered are.
    let inside = subst (λ (xs : List (Option Slicing)). c.in-Some.place < length xs) c.as_slice.ensures.value c.in-Some.ensures.1 in
    on_ok c.make_call.result (answered_now job past c.args.call.now c.args.reply.now answered c.args.clerks.now.items are c.in-Clerk.clerk c.in-Clerk.call c.in-Clerk.is c.in-Clerk-reply.field-0
    c.in-Clerk-reply.is c.in-Some.place c.index_mut.result.now c.make_call.new.clerk c.in-Some.ensures.0 inside c.index_mut.ensures.value) c.make_call.ensures
