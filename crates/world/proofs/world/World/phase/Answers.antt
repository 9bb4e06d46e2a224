use Rattle.std.proofs.Common.{refl}
use Rattle.job_calls.specs.declared.call.ClusterCall.TheVariants as call
use Rattle.world.specs.declared.step.Step.TheVariants as step
use Rattle.world.specs.Calls.{calls_in}
use Rattle.world.proofs.Asking.{fits, asked_on}
use Rattle.world.proofs.world.World.phase.Goals as goal

pub returns : goal.returns
returns c = λ job past k.
    let s = step.Phase in
    let made = call.Phase in
    asked_on job past s made c.args.self.now _ k refl (record { job = refl; draft = refl; shares = refl; book = refl }) (fits s made (λ t. t) (λ r. refl) (λ r. refl)) c.ask.ensures.run s refl c.ask.result (c.ask.ensures.asked job (calls_in job past) k.cluster) refl (λ n before. refl)
