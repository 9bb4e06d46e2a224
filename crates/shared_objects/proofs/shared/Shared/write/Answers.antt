use Rattle.std.proofs.Common.{ℕ, subst}
use Rattle.shared_objects.specs.Actors.{made_at}
use Rattle.shared_objects.specs.Calls.{CalledToWrite}
use Rattle.shared_objects.specs.Objects.{SharedObject}
use Rattle.shared_objects.proofs.Replying.{called_reply, called_unrefused}
use Rattle.shared_objects.proofs.shared.Shared.write.Goals as goal

pub returns-clause-reply : goal.returns-clause-reply
returns-clause-reply g c = called_reply g.M.Machine.step _ _ _ g.M.Actor.at c.args.call g.M.Actor.is_reply g.met.M.Actor.replies g.met.M.Actor.replies_alike c.args.when _ g.M.Actor.told c.args.pass.now c.write.result c.write.new.pass c.write.ensures.answer

pub returns-clause-unrefused : goal.returns-clause-unrefused
returns-clause-unrefused g c = called_unrefused g.M.Machine.step _ _ _ g.M.Actor.at c.args.call g.M.Actor.may_refuse g.met.M.Actor.refuses g.met.M.Actor.refuses_alike c.args.when _ g.M.Actor.told c.args.pass.now c.write.result c.write.new.pass c.write.ensures.answer

pub returns-clause-answer : goal.returns-clause-answer
returns-clause-answer g c =
    let made = λ (ticket : ℕ). made_at g.M.Actor.at c.args.when c.args.call ticket in
    subst (λ (object : SharedObject _). CalledToWrite g.M.Machine.step object.lock c.args.draws.now.pass c.write.new.draws.pass made (λ (ticket : ℕ). g.M.Actor.recorded object.number (made ticket)) g.M.Actor.told
    c.args.pass.now c.write.result c.write.new.pass) c.self.view_is c.write.ensures.answer
