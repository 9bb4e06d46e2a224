use Rattle.std.proofs.Common.{◌≡◌, ◌∷◌, sym, subst}
use Rattle.std.proofs.lemmas.Result.{IfOk-weaker}
use Rattle.replies.specs.declared.reply.Reply.{Reply}
use Rattle.world.specs.Pasts.{event}
use Rattle.world.specs.Worlds.{LeadsTo}
use Rattle.script_trace.proofs.Playing.{led_one}
use Rattle.script_trace.proofs.tracer.play.Goals as goal

pub returns-clause-leads : goal.returns-clause-leads
returns-clause-leads c job past leads =
    let s = c.args.step.now in
    let told = c.in-Some.told in
    let world = c.run.new.self in
    let led = led_one job past c.from_ref.result.now s c.in_ok-replies.replies.items c.pop.new.self.items told world
    c.from_ref.ensures.value c.in_ok-replies.ensures.answers c.in-Some.ensures.items (c.in_ok-replies.ensures.leads job past leads) in
    IfOk-weaker c.kept_reply.result (λ (kept : Reply). kept ≡ told) (λ (kept : Reply). LeadsTo job (event s kept ∷ past) world)
    (λ kept same. subst (λ (r : Reply). LeadsTo job (event s r ∷ past) world) (sym same) led) c.kept_reply.ensures.same
