use Rattle.std.proofs.Common.{◌≡◌, ℕ, true, refl, sym, ◌∙◌, ap, subst}
use Rattle.std.specs.Prelude.{Option, Some, reverse}
use Rattle.machines.specs.Numbers.{is_within}
use Rattle.key_handle.specs.declared.handle.KeyHandle.{KeyHandle}
use Rattle.job_calls.specs.declared.call.ClusterCall.TheVariants as call
use Rattle.cluster.specs.Numbers.{with_number}
use Rattle.cluster.specs.Deliveries.{handles_made}
use Rattle.world.specs.Jobs.{Job}
use Rattle.world.specs.declared.step.Step.TheVariants as step
use Rattle.world.specs.Calls.{if_sent, calls_in}
use Rattle.world.proofs.Asking.{fits, actor_call, asked_on}
use Rattle.world.proofs.world.World.check.Goals as goal

pub returns : goal.returns
returns c = λ job past k.
    let calls = calls_in job past in
    let s = step.Check c.args.task c.args.number c.args.at in
    let made = call.Check c.args.task c.in-Some.handle.now c.args.at in
    let most : c.tasks.result ≡ job.tasks = c.tasks.ensures.value ∙ ap (λ (j : Job). j.tasks) k.same_job in
    let inside : is_within c.args.task job.tasks ≡ true = subst (λ (n : ℕ). is_within c.args.task n ≡ true) most c.in_ok-check_actor.ensures in
    let found : Some c.in-Some.handle.now ≡ with_number c.args.number (reverse (handles_made calls)) = c.in-Some.ensures job calls k.cluster in
    let is = actor_call c.args.task job.tasks _ inside ∙ ap (λ (o : Option KeyHandle). if_sent o (λ handle. call.Check c.args.task handle c.args.at)) (sym found) in
    asked_on job past s made c.args.self.now _ k is (record { job = refl; draft = refl; shares = refl; book = refl }) (fits s made (λ t. t) (λ r. refl) (λ r. refl)) c.ask.ensures.run s refl c.ask.result (c.ask.ensures.asked job calls k.cluster) refl (λ n before. refl)
