use Rattle.std.proofs.Common.{rules}
use Rattle.shared_objects.proofs.Writing.{drawn_write, refused_write}
use Rattle.shared_objects.proofs.write.write.Goals as goal

pub returns-in-Ok-clause-answer : goal.returns-in-Ok-clause-answer
returns-in-Ok-clause-answer g c = drawn_write _ _ _ _ _ _ _ _ _ _ c.in-Ok.ensures.answer (search rules) (λ event made. search rules) (λ unmade. search rules)

pub returns-in-Err-NoMemory-clause-answer : goal.returns-in-Err-NoMemory-clause-answer
returns-in-Err-NoMemory-clause-answer g c =
    let written = rw c.in-Err-NoMemory.field-0-is at c.in-Err-NoMemory.ensures.answer in
    drawn_write _ _ _ _ _ _ _ _ _ _ written (search rules) (λ event made. search rules) (λ unmade. search rules)

pub returns-clause-answer : goal.returns-clause-answer
returns-clause-answer g c =
    let written = rw c.in-Err-Refused.field-0-is at c.in-Err-Refused.ensures.answer in
    refused_write _ _ _ _ _ _ _ _ _ _ _ written (search rules) (λ event made. search rules) (λ unmade. search rules)
    (λ call. g.M.Actor.recorded c.args.order.actor call) _ c.refused_call.result
    c.refused_call.ensures.fault c.refused_call.ensures.ticket c.refused_call.ensures.step c.refused_call.ensures.reply
