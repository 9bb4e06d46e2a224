use Rattle.std.proofs.Common.{◌≡◌, ℕ, ◌+◌, ◌<◌, List, [], ◌∷◌, ◌++◌, length, take, sym, ◌∙◌, ap, subst, arith, length-append}
use Rattle.std.proofs.lemmas.List.{take_more, length-take-le}
use Rattle.world.specs.declared.step.Step.{Step}
use Rattle.world.specs.Pasts.{Past}
use Rattle.world.specs.Runs.{past_after}
use Rattle.world.specs.Worlds.{LeadsTo}
use Rattle.world.proofs.Playing.{past_after-push}
use Rattle.world.proofs.world.World.run.Goals as goal

pub loop-step-preserved : goal.loop-step-preserved
loop-step-preserved c =
    let within : c.loop-step.step-index < length c.args.steps.now = c.loop-step-test.true in
    let more : take (c.loop-step.step-index + 1) c.args.steps.now ≡ take c.loop-step.step-index c.args.steps.now ++ c.step-item.result ∷ [] =
    take_more c.args.steps.now c.loop-step.step-index c.step-item.result within ∙ ap (λ (s : Step). take c.loop-step.step-index c.args.steps.now ++ s ∷ []) (sym c.step-item.is) in
    let many : length c.loop-step.replies.items ≡ length (take c.loop-step.step-index c.args.steps.now) = c.loop-step.invariant.answers ∙ sym (length-take-le c.loop-step.step-index c.args.steps.now (omega arith)) in
    record {
      room = let room = c.loop-step.invariant.room in let len = c.push_reserved.ensures.len in let capacity = c.push_reserved.ensures.capacity in omega (arith, room, len, capacity, within);
      answers = ap length c.push_reserved.ensures.items ∙ length-append c.loop-step.replies.items (c.play-reply.result ∷ []) ∙ ap (λ (n : ℕ). n + 1) c.loop-step.invariant.answers;
      leads = λ job past k.
          subst (λ (p : Past). LeadsTo job p c.play-reply.new.self)
          (sym (
          ap (λ (steps : List Step). past_after past steps c.push_reserved.new.self.items) more
          ∙ ap (past_after past (take c.loop-step.step-index c.args.steps.now ++ c.step-item.result ∷ [])) c.push_reserved.ensures.items
          ∙ past_after-push past (take c.loop-step.step-index c.args.steps.now) c.loop-step.replies.items c.step-item.result c.play-reply.result many
          ))
          (c.play-reply.ensures job (past_after past (take c.loop-step.step-index c.args.steps.now) c.loop-step.replies.items) (c.loop-step.invariant.leads job past k));
    }
